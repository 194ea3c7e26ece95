use Rattle.std.proofs.Common.{◌≡◌, ◌∙◌, sym, ap, subst, Err}
use Rattle.std.proofs.lemmas.Result.{err_from_is_err_and}
use Rattle.jl_model.specs.declared.ty.Ty.TheViews as V
use Rattle.jl_model.specs.Normal.{AllNormal}
use Rattle.jl_model.specs.Subtype.{opaque, Below}
use Rattle.jl_model.specs.Refusals.{table_with}
use Rattle.jl_types.specs.declared.normal_form.NormFault.TheVariants.{TypeLimit}
use Rattle.jl_norm.proofs.OutsideLemmas.{Tells}
use Rattle.jl_norm.proofs.OwnLemmas.{own_large, own_shape, own_name, own_normal, own_low, own_judged}
use Rattle.jl_norm.proofs.outside.is_own_outside.Goals as goal

pub returns-in_err-form-clause-limit : goal.returns-in_err-form-clause-limit
returns-in_err-form-clause-limit c = λ e.
    let p = err_from_is_err_and c.from_residual.result c.from_residual.ensures.1 in
    let f : Err p.0 ≡ Err TypeLimit = sym p.1 ∙ e in
    let g : p.0 ≡ TypeLimit = cc in
    let w : c.settled.result ≡ Err TypeLimit = c.in_err-form.was ∙ ap (λ z. Err z) (sym p.2 ∙ g) in
    absurd (own_large c.args.table.now c.args.decl.now c.valid.ensures c.requires.written c.args.ty.now c.requires.argument c.requires.closed c.requires.own (c.settled.ensures.limit w))

pub returns-then-not-is_bottom-clause-judged : goal.returns-then-not-is_bottom-clause-judged
returns-then-not-is_bottom-clause-judged c =
    own_low c.args.table.now c.args.decl.now c.valid.ensures c.requires.written c.args.ty.now c.requires.argument c.requires.closed c.requires.own c.in_ok-form.form (c.in_ok-form.ensures.kept c.args.decl.now) c.in-Nominal.name
    c.in-Nominal.arguments c.in-Nominal.is c.in_ok-form.ensures.small c.args.bound.now c.requires.bound_ground c.is_bottom.result c.if-not-is_bottom.true c.is_bottom.ensures.1

pub is_above-requires-clause-name_known : goal.is_above-requires-clause-name_known
is_above-requires-clause-name_known c =
    own_name c.args.table.now c.args.decl.now c.valid.ensures c.requires.written c.args.ty.now c.requires.argument c.requires.closed c.requires.own c.in_ok-form.form (c.in_ok-form.ensures.kept c.args.decl.now) c.in-Nominal.name
    c.in-Nominal.arguments c.in-Nominal.is

pub is_above-requires-clause-lowers_normal : goal.is_above-requires-clause-lowers_normal
is_above-requires-clause-lowers_normal c =
    subst (AllNormal (table_with c.args.table.now c.args.decl.now)) (sym c.as_slice.ensures)
    (own_normal c.args.table.now c.args.decl.now c.valid.ensures c.requires.written c.args.ty.now c.requires.argument c.requires.closed c.requires.own c.in_ok-form.form (c.in_ok-form.ensures.kept c.args.decl.now) c.in-Nominal.name
    c.in-Nominal.arguments c.in-Nominal.is)

pub returns-in-Nominal-clause-judged : goal.returns-in-Nominal-clause-judged
returns-in-Nominal-clause-judged c =
    let r = c.in_ok-is_below-in-Nominal.is_below in
    let t : Tells r (Below (table_with c.args.table.now c.args.decl.now) opaque (V.Nominal c.in-Nominal.name c.in-Nominal.arguments) c.args.bound.now.high) =
    subst (λ z. Tells r (Below (table_with c.args.table.now c.args.decl.now) opaque (V.Nominal c.in-Nominal.name z) c.args.bound.now.high)) c.as_slice.ensures c.in_ok-is_below-in-Nominal.ensures in
    own_judged c.args.table.now c.args.decl.now c.valid.ensures c.requires.written c.args.ty.now c.requires.argument c.requires.closed c.requires.own c.in_ok-form.form (c.in_ok-form.ensures.kept c.args.decl.now) c.in-Nominal.name
    c.in-Nominal.arguments c.in-Nominal.is c.in_ok-form.ensures.small c.args.bound.now c.requires.bound_ground r (c.is_bottom.ensures.0 c.if-not-is_bottom.false) t.0 t.1

pub returns : goal.returns
returns c =
    absurd
    (own_shape c.args.table.now c.args.decl.now c.valid.ensures c.requires.written c.args.ty.now c.requires.argument c.requires.closed c.requires.own c.in_ok-form.form (c.in_ok-form.ensures.kept c.args.decl.now) c.in_default.not-Nominal)
