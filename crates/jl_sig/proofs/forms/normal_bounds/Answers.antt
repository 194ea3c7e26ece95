use Rattle.std.proofs.Common.{◌≡◌, ◌∙◌, sym, ap, subst, Err, inl, inr}
use Rattle.std.proofs.lemmas.List.{drop_all}
use Rattle.std.proofs.lemmas.Result.{err_from_is_err_and}
use Rattle.jl_types.specs.declared.normal_form.NormFault.TheVariants.{TypeLimit}
use Rattle.jl_model.specs.Signature.{Both}
use Rattle.jl_model.specs.Refusals.{bound_types}
use Rattle.jl_sig.specs.Forms.{IsBoundForm}
use Rattle.jl_sig.proofs.BoundLemmas.{closed_form}
use Rattle.jl_sig.proofs.FormSteps.{bounds_step, bounds_done, bound_large}
use Rattle.jl_sig.proofs.KeptLemmas.{bounds_fit, bound_low, bound_named}
use Rattle.jl_sig.proofs.forms.normal_bounds.Goals as goal

pub normal-requires : goal.normal-requires
normal-requires c = (bounds_fit c.args.table.now c.args.bounds.now c.loop-bound.bound-index c.bound-item.result c.requires.fit c.loop-bound-test.true c.bound-item.is).0.known

pub normal_high-requires-clause-fit : goal.normal_high-requires-clause-fit
normal_high-requires-clause-fit c = (bounds_fit c.args.table.now c.args.bounds.now c.loop-bound.bound-index c.bound-item.result c.requires.fit c.loop-bound-test.true c.bound-item.is).1

pub normal_high-requires-clause-named : goal.normal_high-requires-clause-named
normal_high-requires-clause-named c = bound_named c.args.bounds.now c.loop-bound.bound-index c.bound-item.result c.requires.placed c.loop-bound-test.true c.bound-item.is

pub returns-in_err-low-clause-limit : goal.returns-in_err-low-clause-limit
returns-in_err-low-clause-limit c = λ e.
    let p = err_from_is_err_and c.from_residual.result c.from_residual.ensures.1 in
    let f : Err p.0 ≡ Err TypeLimit = sym p.1 ∙ e in
    let g : p.0 ≡ TypeLimit = cc in
    let w : c.normal.result ≡ Err TypeLimit = c.in_err-low.was ∙ ap (λ z. Err z) (sym p.2 ∙ g) in
    let k = bound_low c.args.bounds.now c.loop-bound.bound-index c.bound-item.result c.requires.placed c.loop-bound-test.true c.bound-item.is in
    bound_large c.args.table.now c.args.bounds.now c.loop-bound.bound-index c.bound-item.result c.loop-bound-test.true c.bound-item.is (inl (k, c.normal.ensures.limit w))

pub returns-in_err-high-clause-limit : goal.returns-in_err-high-clause-limit
returns-in_err-high-clause-limit c = λ e.
    let p = err_from_is_err_and c.from_residual-in_err-high.result c.from_residual-in_err-high.ensures.1 in
    let f : Err p.0 ≡ Err TypeLimit = sym p.1 ∙ e in
    let g : p.0 ≡ TypeLimit = cc in
    let w : c.normal_high.result ≡ Err TypeLimit = c.in_err-high.was ∙ ap (λ z. Err z) (sym p.2 ∙ g) in
    bound_large c.args.table.now c.args.bounds.now c.loop-bound.bound-index c.bound-item.result c.loop-bound-test.true c.bound-item.is (inr (c.normal_high.ensures.limit w))

pub loop-bound-preserved : goal.loop-bound-preserved
loop-bound-preserved c = λ cs r.
    let ds = c.args.table.now in
    let b = c.bound-item.result in
    let k = bound_low c.args.bounds.now c.loop-bound.bound-index b c.requires.placed c.loop-bound-test.true c.bound-item.is in
    bounds_step (IsBoundForm ds) c.args.bounds.now c.loop-bound.bound-index b (record { low = c.in_ok-low.low; high = c.in_ok-high.high }) c.loop-bound.forms.items c.push_bound.new.bounds.items c.loop-bound-test.true c.bound-item.is
    (closed_form ds b.low c.in_ok-low.low k (record { within = c.in_ok-low.ensures.within; form = c.in_ok-low.ensures.form; small = c.in_ok-low.ensures.small; known = c.in_ok-low.ensures.known }))
    c.in_ok-high.ensures.form
    c.in_ok-push_bound.ensures c.loop-bound.invariant cs r

pub returns-clause-forms : goal.returns-clause-forms
returns-clause-forms c =
    let ds = c.args.table.now in
    subst (λ z. Both (IsBoundForm ds) (bound_types c.args.bounds.now) (bound_types z)) (sym c.in_ok-from_vec.ensures)
    (bounds_done (IsBoundForm ds) c.args.bounds.now c.loop-bound.forms.items c.loop-bound.bound-index (drop_all c.loop-bound.bound-index c.args.bounds.now c.loop-bound-test.false) c.loop-bound.invariant)
