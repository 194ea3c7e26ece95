use Rattle.std.proofs.Common.{arith}
use Rattle.std.proofs.lemmas.Bool.{both_ways}
use Rattle.jl_subsig.specs.Standing.{HasPlace}
use Rattle.jl_subsig.proofs.PickLemmas.{every_rest}
use Rattle.jl_subsig.proofs.StandingLemmas.{last_stays, last_grows}
use Rattle.jl_ambig.proofs.beyond.last_deletion.Goals as goal

pub loop-del-preserved-then-del-last : goal.loop-del-preserved-then-del-last
loop-del-preserved-then-del-last c =
    let P = c.args.ready.now in
    let dels = c.args.dels.now in record {
      so_far = last_stays P c.args.site dels c.loop-del.del-index c.loop-del.last c.loop-del-test.true c.loop-del.invariant.so_far (λ s. omega (arith, c.if-del-last.true));
      places = (every_rest (HasPlace P) dels c.loop-del.del-index (record { world = 0; place = 0 }) c.loop-del-test.true c.loop-del.invariant.places).1;
    }

pub loop-del-preserved-then-not-is_same : goal.loop-del-preserved-then-not-is_same
loop-del-preserved-then-not-is_same c =
    let P = c.args.ready.now in
    let dels = c.args.dels.now in record {
      so_far = last_stays P c.args.site dels c.loop-del.del-index c.loop-del.last c.loop-del-test.true c.loop-del.invariant.so_far
          (λ s. absurd (both_ways c.in_ok-is_same.is_same c.if-not-is_same.true (c.in_ok-is_same.ensures.1 s)));
      places = (every_rest (HasPlace P) dels c.loop-del.del-index (record { world = 0; place = 0 }) c.loop-del-test.true c.loop-del.invariant.places).1;
    }

pub loop-del-preserved : goal.loop-del-preserved
loop-del-preserved c =
    let P = c.args.ready.now in
    let dels = c.args.dels.now in record {
      so_far = last_grows P c.args.site dels c.loop-del.del-index c.loop-del.last c.loop-del-test.true c.loop-del.invariant.so_far (omega (arith, c.if-del-last.false))
          (c.in_ok-is_same.ensures.0 c.if-not-is_same.false);
      places = (every_rest (HasPlace P) dels c.loop-del.del-index (record { world = 0; place = 0 }) c.loop-del-test.true c.loop-del.invariant.places).1;
    }
