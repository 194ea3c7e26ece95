use Rattle.std.proofs.Common.{◌∙◌, ◌<◌, ap, subst, arith, get_or, cond, ◌&&◌, ◌∷◌, []}
use Rattle.std.specs.List.{list_any}
use Rattle.jl_model.specs.declared.ty.Ty.TheVariants as W
use Rattle.jl_model.specs.Signature.{is_diagonal}
use Rattle.jl_sig.specs.declared.kind.Kind.TheVariants.{Unused}
use Rattle.jl_sig.specs.KindIn.{kind_in}
use Rattle.jl_sig.specs.Built.{has_root}
use Rattle.jl_sig.proofs.RowLemmas.{kinds_long, slot_step}
use Rattle.jl_sig.proofs.rows.slots.Goals as goal

pub bounds-kinds-variable : goal.bounds-kinds-variable
bounds-kinds-variable c =
    let k = kinds_long c.args.written.now c.args.kinds.now c.requires.kinds in
    omega (arith, k, c.len-width.ensures, c.loop-variable-test.true)

pub loop-variable-preserved : goal.loop-variable-preserved
loop-variable-preserved c =
    let s = c.args.written.now in
    let i = c.loop-variable.variable in
    let p = c.index-picks-variable.result in
    let n = c.len-width.ensures in
    slot_step s c.args.kinds.now c.args.picks.now c.args.row.now i Unused p c.in_ok-slot.field-0 c.loop-variable.lists.items c.push.new.self.items c.requires.kinds c.requires.picks (subst (λ z. i < z) n c.loop-variable-test.true)
    c.index-picks-variable.is
    (c.in_ok-slot.ensures ∙ ap (λ z. cond (is_diagonal (kind_in (get_or c.args.kinds.now i Unused)) && list_any (has_root z i) c.args.row.now) p (W.Any ∷ [])) n)
    c.in_ok-push.ensures.items c.loop-variable.invariant
