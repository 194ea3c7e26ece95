use Rattle.std.proofs.Common.{◌∙◌, ap, sym, arith, []}
use Rattle.jl_ambig.specs.Asked.{pair_of}
use Rattle.jl_ambig.specs.Pairs.{pair_cmp}
use Rattle.jl_ambig.proofs.FoundLemmas.{pair_order}
use Rattle.jl_ambig.proofs.Sorted.{passed, place_here, place_end}
use Rattle.jl_ambig.proofs.noting.place_for.Goals as goal

pub returns-in-Greater-clause-place : goal.returns-in-Greater-clause-place
returns-in-Greater-clause-place c = λ s.
    let x = pair_of c.args.a c.args.b [] in
    place_here pair_cmp pair_order x c.args.pairs.now c.loop-i.i c.index-pairs-i.result c.loop-i-test.true s c.loop-i.invariant
    (ap (λ z. pair_cmp z x) (sym c.index-pairs-i.is) ∙ sym c.compare.ensures ∙ c.in-Greater.is)

pub loop-i-preserved : goal.loop-i-preserved
loop-i-preserved c =
    let x = pair_of c.args.a c.args.b [] in
    passed pair_cmp x c.args.pairs.now c.loop-i.i c.index-pairs-i.result c.loop-i-test.true c.loop-i.invariant (ap (λ z. pair_cmp z x) (sym c.index-pairs-i.is) ∙ sym c.compare.ensures ∙ c.in-Less.is)

pub returns-clause-place : goal.returns-clause-place
returns-clause-place c = λ s. place_end pair_cmp (pair_of c.args.a c.args.b []) c.args.pairs.now c.loop-i.i (omega (arith, c.loop-i-test.false)) c.loop-i.invariant
