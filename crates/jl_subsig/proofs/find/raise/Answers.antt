use Rattle.std.proofs.Common.{◌≡◌, ◌∙◌, ap, subst}
use Rattle.jl_model.specs.declared.ty.Ty.TheViews.{outs-Any}
use Rattle.jl_model.specs.declared.ty.Ty.TheVariants as W
use Rattle.jl_subsig.specs.Side.{tops}
use Rattle.jl_subsig.proofs.LeftPartLemmas.{match_map, raise_var}
use Rattle.jl_subsig.proofs.find.raise.Goals as goal

pub returns-in-Var : goal.returns-in-Var
returns-in-Var c =
    let s = c.args.left.now in
    let r = c.args.row.now in
    let e = c.as_slice.ensures ∙ ap (λ z. z.vars) c.kept.ensures in
    match_map c.top.result _ _ _ _
    (λ h. raise_var s r c.args.ty.now W.Any c.in-Var.number c.requires c.in-Var.is (subst (λ z. tops z s r c.in-Var.number ≡ W.Any) e h) ∙ outs-Any)
    (λ t h. raise_var s r c.args.ty.now t.now c.in-Var.number c.requires c.in-Var.is (subst (λ z. tops z s r c.in-Var.number ≡ t.now) e h)) c.top.ensures
