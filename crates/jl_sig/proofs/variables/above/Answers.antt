use Rattle.std.proofs.Common.{◌≡◌, ◌∙◌, ◌++◌, sym, ap, subst, arith, true, false}
use Rattle.std.proofs.lemmas.List.{drop_all}
use Rattle.jl_model.specs.Ancestors.{table_of}
use Rattle.jl_model.specs.AllRows.{Above}
use Rattle.jl_sig.proofs.PickLemmas.{element, aligned_long, ground_at, equal_at, above_take, above_pass, above_done}
use Rattle.jl_sig.proofs.variables.above.Goals as goal
use Rattle.jl_sig.proofs.variables.above.Goals.{then-ground_sub+in_ok-copy+in_ok-push, else-ground_sub}

pub bounds-kept-i : goal.bounds-kept-i
bounds-kept-i c = let l = aligned_long c.args.table.now c.valid.ensures c.args.alternatives.now c.args.kept.now c.requires.aligned in omega (arith, l, c.loop-i-test.true)

pub ground_sub-requires-clause-b_ground : goal.ground_sub-requires-clause-b_ground
ground_sub-requires-clause-b_ground c =
    let l = aligned_long c.args.table.now c.valid.ensures c.args.alternatives.now c.args.kept.now c.requires.aligned in
    ground_at c.args.table.now c.valid.ensures c.args.alternatives.now c.args.kept.now c.loop-i.i c.index-kept-i.result c.requires.aligned (omega (arith, l, c.loop-i-test.true)) c.index-kept-i.is

pub loop-i-preserved : goal.loop-i-preserved
loop-i-preserved c = λ t e.
    let ds = c.args.table.now in
    let d = c.valid.ensures in
    let ts = c.args.alternatives.now in
    let us = c.args.kept.now in
    let i = c.loop-i.i in
    let low = c.args.low.now in
    let u = c.index-kept-i.result in
    let old = c.loop-i.picks.items in
    elim c.if-ground_sub.branch [
      | then-ground_sub+in_ok-copy+in_ok-push w ↦
          (let a = w.index-alternatives-i.result in
          above_take ds d ts i low a u w.in_ok-copy.field-0 t old c.if-ground_sub.picks.items e (equal_at ds d ts us i a u c.requires.aligned c.loop-i-test.true w.index-alternatives-i.is c.index-kept-i.is)
          (c.ground_sub.ensures.0 w.if-ground_sub.true) c.loop-i-test.true w.index-alternatives-i.is w.in_ok-copy.ensures (ap (λ z. z.items) w.picks-is ∙ w.in_ok-push.ensures.items) (c.loop-i.invariant t e))
      | else-ground_sub w ↦
          (let a = element ts i c.loop-i-test.true in
          λ ps r. subst (λ z. Above (table_of ds) t ts (z.items ++ ps)) (sym w.picks-is)
          (above_pass ds d ts i low a.0 u t old e (equal_at ds d ts us i a.0 u c.requires.aligned c.loop-i-test.true a.1 c.index-kept-i.is)
          (λ b. let x : c.ground_sub.result ≡ true = c.ground_sub.ensures.1 b in let y : c.ground_sub.result ≡ false = w.if-ground_sub.false in cc)
          c.loop-i-test.true a.1 (c.loop-i.invariant t e) ps r))
    ]

pub returns : goal.returns
returns c = λ t e.
    let n = table_of c.args.table.now in
    subst (Above n t c.args.alternatives.now) (sym c.in_ok-picks.ensures)
    (above_done c.args.table.now c.valid.ensures c.args.alternatives.now c.loop-i.i t c.loop-i.picks.items (drop_all c.loop-i.i c.args.alternatives.now c.loop-i-test.false) (c.loop-i.invariant t e))
