use Rattle.std.proofs.Common.{◌≡◌, ◌∙◌, ◌++◌, sym, ap, subst, refl, Err}
use Rattle.std.proofs.lemmas.List.{drop_all}
use Rattle.std.proofs.lemmas.Result.{err_from_is_err_and}
use Rattle.jl_types.specs.declared.normal_form.NormFault.TheVariants.{TypeLimit}
use Rattle.jl_sig.proofs.FormSteps.{argument_known, closed_step, open_step, formed_done, argument_large}
use Rattle.jl_sig.specs.Parts.{all_given}
use Rattle.jl_sig.specs.Forms.{AreFormed}
use Rattle.jl_sig.proofs.forms.normal_arguments.Goals as goal
use Rattle.jl_sig.proofs.forms.normal_arguments.Goals.{then-is_closed+in_ok-ty+in_ok-push_argument, else-is_closed}

pub normal-requires : goal.normal-requires
normal-requires c = argument_known c.args.table.now c.args.arguments.now c.loop-argument.argument-index c.argument-item.result c.loop-argument-test.true c.argument-item.is c.requires

pub returns-in_err-ty-clause-limit : goal.returns-in_err-ty-clause-limit
returns-in_err-ty-clause-limit c = λ e.
    let p = err_from_is_err_and c.from_residual.result c.from_residual.ensures.1 in
    let f : Err p.0 ≡ Err TypeLimit = sym p.1 ∙ e in
    let g : p.0 ≡ TypeLimit = cc in
    let w : c.normal.result ≡ Err TypeLimit = c.in_err-ty.was ∙ ap (λ z. Err z) (sym p.2 ∙ g) in
    argument_large c.args.table.now c.args.arguments.now c.loop-argument.argument-index c.argument-item.result c.loop-argument-test.true c.argument-item.is
    (sym c.is_closed.ensures ∙ c.if-is_closed.true) (c.normal.ensures.limit w)

pub loop-argument-preserved : goal.loop-argument-preserved
loop-argument-preserved c =
    let ds = c.args.table.now in
    let as_ = c.args.arguments.now in
    let i = c.loop-argument.argument-index in
    let a = c.argument-item.result in
    let old = c.loop-argument.forms.items in
    elim c.if-is_closed.branch [
      | then-is_closed+in_ok-ty+in_ok-push_argument w ↦
          closed_step ds as_ i a (record { of = a.of; place = a.place; ty = w.in_ok-ty.ty }) old c.if-is_closed.forms.items c.loop-argument-test.true c.argument-item.is (sym c.is_closed.ensures ∙ w.if-is_closed.true)
          (record { within = w.in_ok-ty.ensures.within; form = w.in_ok-ty.ensures.form; small = w.in_ok-ty.ensures.small; known = w.in_ok-ty.ensures.known }) refl refl
          (ap (λ z. z.items) w.forms-is ∙ w.in_ok-push_argument.ensures) c.loop-argument.invariant
      | else-is_closed w ↦
          λ hs r. subst (λ z. AreFormed ds (all_given as_) (all_given z.items ++ hs)) (sym w.forms-is) (open_step ds as_ i a old c.loop-argument-test.true c.argument-item.is (sym c.is_closed.ensures ∙ w.if-is_closed.false) c.loop-argument.invariant hs r)
    ]

pub returns-clause-forms : goal.returns-clause-forms
returns-clause-forms c =
    formed_done c.args.table.now c.args.arguments.now c.loop-argument.forms.items c.loop-argument.argument-index (drop_all c.loop-argument.argument-index c.args.arguments.now c.loop-argument-test.false) c.loop-argument.invariant
