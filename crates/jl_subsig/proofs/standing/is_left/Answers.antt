use Rattle.std.proofs.Common.{arith, refl, subst, sym, true≢false}
use Rattle.std.proofs.lemmas.Bool.{both_ways}
use Rattle.std.proofs.lemmas.List.{take_all}
use Rattle.jl_subsig.specs.Standing.{HasPlace, IsLeft}
use Rattle.jl_subsig.proofs.PickLemmas.{every_rest}
use Rattle.jl_subsig.proofs.StandingLemmas.{left_stays_on, left_ends}
use Rattle.jl_subsig.proofs.standing.is_left.Goals as goal

pub loop-del-preserved-then-del-def : goal.loop-del-preserved-then-del-def
loop-del-preserved-then-del-def c =
    let P = c.args.ready.now in
    let dels = c.args.dels.now in record {
      so_far = left_stays_on P c.args.def dels c.loop-del.del-index c.loop-del-test.true c.loop-del.invariant.so_far (λ t. let past = t.later in omega (arith, past, c.if-del-def.true));
      places = (every_rest (HasPlace P) dels c.loop-del.del-index (record { world = 0; place = 0 }) c.loop-del-test.true c.loop-del.invariant.places).1;
    }

pub loop-del-preserved : goal.loop-del-preserved
loop-del-preserved c =
    let P = c.args.ready.now in
    let dels = c.args.dels.now in record {
      so_far = left_stays_on P c.args.def dels c.loop-del.del-index c.loop-del-test.true c.loop-del.invariant.so_far
          (λ t. both_ways c.in_ok-is_same.is_same c.if-is_same.false (c.in_ok-is_same.ensures.1 t.same));
      places = (every_rest (HasPlace P) dels c.loop-del.del-index (record { world = 0; place = 0 }) c.loop-del-test.true c.loop-del.invariant.places).1;
    }

pub returns-then-is_same : goal.returns-then-is_same
returns-then-is_same c = (
  λ e. absurd (true≢false (sym e)),
  λ left. absurd (left_ends c.args.ready.now c.args.def c.args.dels.now c.loop-del.del-index c.loop-del-test.true (omega (arith, c.if-del-def.false)) (c.in_ok-is_same.ensures.0 c.if-is_same.true) left),
)

pub returns : goal.returns
returns c = (λ e. subst (λ es. IsLeft c.args.ready.now es c.args.def) (take_all c.loop-del.del-index c.args.dels.now c.loop-del-test.false) c.loop-del.invariant.so_far, λ s. refl)
