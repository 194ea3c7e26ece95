use Rattle.std.proofs.Common.{◌≡◌, ◌∙◌, sym, ap, Err}
use Rattle.std.proofs.lemmas.Result.{err_from_is_err_and}
use Rattle.jl_types.specs.declared.normal_form.NormFault.TheVariants.{TypeLimit}
use Rattle.jl_norm.proofs.OwnLemmas.{free_here, free_large, free_low, free_judged}
use Rattle.jl_norm.proofs.outside.is_form_outside.Goals as goal

pub normal-requires : goal.normal-requires
normal-requires c = free_here c.args.table.now c.args.decl.now c.valid.ensures c.requires.written c.args.ty.now c.requires.argument c.requires.free

pub returns-in_err-form-clause-limit : goal.returns-in_err-form-clause-limit
returns-in_err-form-clause-limit c = λ e.
    let p = err_from_is_err_and c.from_residual.result c.from_residual.ensures.1 in
    let f : Err p.0 ≡ Err TypeLimit = sym p.1 ∙ e in
    let g : p.0 ≡ TypeLimit = cc in
    let w : c.normal.result ≡ Err TypeLimit = c.in_err-form.was ∙ ap (λ z. Err z) (sym p.2 ∙ g) in
    free_large c.args.table.now c.args.decl.now c.valid.ensures c.requires.written c.args.ty.now c.requires.argument c.requires.free (c.normal.ensures.limit w)

pub returns-then-not-ground_sub-clause-judged : goal.returns-then-not-ground_sub-clause-judged
returns-then-not-ground_sub-clause-judged c =
    free_low c.args.table.now c.args.decl.now c.valid.ensures c.requires.written c.args.ty.now c.requires.argument c.requires.free c.in_ok-form.form c.in_ok-form.ensures.form c.in_ok-form.ensures.known c.in_ok-form.ensures.small
    c.args.bound.now c.requires.bound_ground c.ground_sub.result c.if-not-ground_sub.true c.ground_sub.ensures.1

pub returns-clause-judged : goal.returns-clause-judged
returns-clause-judged c =
    free_judged c.args.table.now c.args.decl.now c.valid.ensures c.requires.written c.args.ty.now c.requires.argument c.requires.free c.in_ok-form.form c.in_ok-form.ensures.form c.in_ok-form.ensures.known c.in_ok-form.ensures.small
    c.args.bound.now c.requires.bound_ground c.ground_sub-2.result (c.ground_sub.ensures.0 c.if-not-ground_sub.false) c.ground_sub-2.ensures.0 c.ground_sub-2.ensures.1
