use Rattle.std.proofs.Common.{◌∙◌, ◌<◌, sym, ap, subst, arith, length, get_or}
use Rattle.jl_model.specs.declared.ty.Bound.{Bound}
use Rattle.jl_model.specs.Rows.{alts}
use Rattle.jl_sig.specs.declared.kind.Kind.TheVariants.{Unused}
use Rattle.jl_sig.proofs.RowLemmas.{kinds_long}
use Rattle.jl_sig.proofs.PlacedLemmas.{places_step}
use Rattle.jl_sig.proofs.variables.places.Goals as goal

pub loop-variable-preserved : goal.loop-variable-preserved
loop-variable-preserved c =
    let e = c.as_slice-vars.ensures in
    let i = c.loop-variable.variable in
    let b = c.index-vars-variable.result in
    places_step c.args.written.now c.args.kinds.now c.args.picks.now i Unused b c.index-picks-variable.result c.in_ok-alternatives.alternatives.items c.in_ok-place.field-0 c.loop-variable.places.items c.push.new.self.items
    c.requires.kinds c.requires.picks (subst (λ z. i < length z) e c.loop-variable-test.true) (c.index-vars-variable.is ∙ ap (λ z. get_or z i b) e) c.index-picks-variable.is (c.in_ok-alternatives.ensures ∙ ap (λ (z : Bound). alts z.high) (sym c.index-vars-variable.is)) c.in_ok-place.ensures
    c.in_ok-push.ensures.items c.loop-variable.invariant

pub bounds-kinds-variable : goal.bounds-kinds-variable
bounds-kinds-variable c =
    let k = kinds_long c.args.written.now c.args.kinds.now c.requires.kinds in
    let e = ap (λ z. length z) c.as_slice-vars.ensures in
    omega (arith, k, e, c.loop-variable-test.true)
