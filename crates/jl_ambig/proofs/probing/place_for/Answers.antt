use Rattle.std.proofs.Common.{◌∙◌, ap, sym, arith}
use Rattle.jl_model.specs.Order.{term_cmp}
use Rattle.jl_model.proofs.OrderLemmas.{term_order}
use Rattle.jl_ambig.proofs.Sorted.{passed, place_here, place_end}
use Rattle.jl_ambig.proofs.probing.place_for.Goals as goal

pub returns-in-Greater-clause-place : goal.returns-in-Greater-clause-place
returns-in-Greater-clause-place c = λ s.
    let x = c.args.ty.now in
    place_here term_cmp term_order x c.args.types.now c.loop-i.i c.index-types-i.result c.loop-i-test.true s c.loop-i.invariant
    (ap (λ z. term_cmp z x) (sym c.index-types-i.is) ∙ sym c.compare.ensures ∙ c.in-Greater.is)

pub loop-i-preserved : goal.loop-i-preserved
loop-i-preserved c =
    let x = c.args.ty.now in
    passed term_cmp x c.args.types.now c.loop-i.i c.index-types-i.result c.loop-i-test.true c.loop-i.invariant (ap (λ z. term_cmp z x) (sym c.index-types-i.is) ∙ sym c.compare.ensures ∙ c.in-Less.is)

pub returns-clause-place : goal.returns-clause-place
returns-clause-place c = λ s. place_end term_cmp c.args.ty.now c.args.types.now c.loop-i.i (omega (arith, c.loop-i-test.false)) c.loop-i.invariant
