use Rattle.std.proofs.Common.{◌≡◌, ◌∙◌, sym, ap, subst, Err, inl, inr, length}
use Rattle.std.specs.List.{flat_map}
use Rattle.std.proofs.lemmas.Result.{err_from_is_err_and}
use Rattle.jl_types.specs.declared.normal_form.NormFault.TheVariants.{TypeLimit}
use Rattle.jl_model.specs.Signature.{Both}
use Rattle.jl_model.specs.Refusals.{bound_types, given_in}
use Rattle.jl_model.specs.SigRefusals.{types_in}
use Rattle.jl_sig.specs.Parts.{all_given}
use Rattle.jl_model.specs.SigRefusals.{are_bounds}
use Rattle.jl_sig.specs.Fit.{AllFit}
use Rattle.jl_sig.specs.Forms.{IsBoundForm, HasTooLarge, AreFormed, HasTooLargeGiven, AreKnown}
use Rattle.jl_sig.proofs.BoundLemmas.{placed_bounds}
use Rattle.jl_sig.proofs.LimitLemmas.{large_bound, large_argument}
use Rattle.jl_sig.proofs.SigLemmas.{few_nodes, not_wide_here, arguments_known, bounds_fit}
use Rattle.jl_sig.proofs.size.small_forms.Goals as goal

pub normal_bounds-requires-clause-fit : goal.normal_bounds-requires-clause-fit
normal_bounds-requires-clause-fit c =
    let ds = c.args.table.now in
    let s = c.args.written.now in
    let x = few_nodes s c.as_slice.result.now c.have_many_nodes.result (c.as_slice.ensures.value ∙ c.in_ok-types.ensures) c.have_many_nodes.ensures c.if-have_many_nodes.false in
    let y = not_wide_here s c.as_slice-else-have_many_nodes.result.now c.have_wide.result (c.as_slice-else-have_many_nodes.ensures.value ∙ c.in_ok-types.ensures) c.have_wide.ensures c.if-have_wide.false in
    let q = ap all_given c.as_slice-3.ensures.value ∙ c.in_ok-arguments.ensures ∙ ap (flat_map given_in) (c.as_slice-2.ensures.value ∙ c.in_ok-types.ensures) in
    let f = subst (λ z. AreFormed ds z (all_given c.in_ok-arguments-2.arguments.items)) q c.in_ok-arguments-2.ensures.forms in
    subst (λ z. AllFit ds (bound_types z)) (sym c.as_slice-4.ensures) (bounds_fit ds c.valid.ensures s c.requires.known (placed_bounds s c.requires.placed) x y (all_given c.in_ok-arguments-2.arguments.items) f)

pub normal_bounds-requires-clause-placed : goal.normal_bounds-requires-clause-placed
normal_bounds-requires-clause-placed c =
    let s = c.args.written.now in
    ap (λ z. are_bounds (length z) 0 z) c.as_slice-4.ensures ∙ placed_bounds s c.requires.placed

pub returns-in_err-bounds-clause-limit : goal.returns-in_err-bounds-clause-limit
returns-in_err-bounds-clause-limit c = λ e.
    let ds = c.args.table.now in
    let s = c.args.written.now in
    let p = err_from_is_err_and c.from_residual-in_err-bounds.result c.from_residual-in_err-bounds.ensures.1 in
    let f : Err p.0 ≡ Err TypeLimit = sym p.1 ∙ e in
    let g : p.0 ≡ TypeLimit = cc in
    let w : c.normal_bounds.result ≡ Err TypeLimit = c.in_err-bounds.was ∙ ap (λ z. Err z) (sym p.2 ∙ g) in
    let x = few_nodes s c.as_slice.result.now c.have_many_nodes.result (c.as_slice.ensures.value ∙ c.in_ok-types.ensures) c.have_many_nodes.ensures c.if-have_many_nodes.false in
    let y = not_wide_here s c.as_slice-else-have_many_nodes.result.now c.have_wide.result (c.as_slice-else-have_many_nodes.ensures.value ∙ c.in_ok-types.ensures) c.have_wide.ensures c.if-have_wide.false in
    inr (inr (inl (large_bound ds c.valid.ensures s x y (subst (λ z. HasTooLarge ds (bound_types z)) c.as_slice-4.ensures (c.normal_bounds.ensures.limit w)))))

pub normal_arguments-requires : goal.normal_arguments-requires
normal_arguments-requires c =
    let ds = c.args.table.now in
    let s = c.args.written.now in
    let e = ap all_given c.as_slice-3.ensures.value ∙ c.in_ok-arguments.ensures ∙ ap (flat_map given_in) (c.as_slice-2.ensures.value ∙ c.in_ok-types.ensures) in
    subst (AreKnown ds) (sym e) (arguments_known ds (types_in s) c.requires.known)

pub returns-in_err-arguments-2-clause-limit : goal.returns-in_err-arguments-2-clause-limit
returns-in_err-arguments-2-clause-limit c = λ e.
    let ds = c.args.table.now in
    let s = c.args.written.now in
    let p = err_from_is_err_and c.from_residual-in_err-arguments-2.result c.from_residual-in_err-arguments-2.ensures.1 in
    let f : Err p.0 ≡ Err TypeLimit = sym p.1 ∙ e in
    let g : p.0 ≡ TypeLimit = cc in
    let w : c.normal_arguments.result ≡ Err TypeLimit = c.in_err-arguments-2.was ∙ ap (λ z. Err z) (sym p.2 ∙ g) in
    let x = few_nodes s c.as_slice.result.now c.have_many_nodes.result (c.as_slice.ensures.value ∙ c.in_ok-types.ensures) c.have_many_nodes.ensures c.if-have_many_nodes.false in
    let y = not_wide_here s c.as_slice-else-have_many_nodes.result.now c.have_wide.result (c.as_slice-else-have_many_nodes.ensures.value ∙ c.in_ok-types.ensures) c.have_wide.ensures c.if-have_wide.false in
    let q = ap all_given c.as_slice-3.ensures.value ∙ c.in_ok-arguments.ensures ∙ ap (flat_map given_in) (c.as_slice-2.ensures.value ∙ c.in_ok-types.ensures) in
    inr (inr (inl (large_argument ds c.valid.ensures s x y (subst (HasTooLargeGiven ds) q (c.normal_arguments.ensures.limit w)))))

pub returns-clause-forms : goal.returns-clause-forms
returns-clause-forms c =
    let ds = c.args.table.now in
    let s = c.args.written.now in
    let q = ap all_given c.as_slice-3.ensures.value ∙ c.in_ok-arguments.ensures ∙ ap (flat_map given_in) (c.as_slice-2.ensures.value ∙ c.in_ok-types.ensures) in
    record {
      few = few_nodes s c.as_slice.result.now c.have_many_nodes.result (c.as_slice.ensures.value ∙ c.in_ok-types.ensures) c.have_many_nodes.ensures c.if-have_many_nodes.false;
      narrow = not_wide_here s c.as_slice-else-have_many_nodes.result.now c.have_wide.result (c.as_slice-else-have_many_nodes.ensures.value ∙ c.in_ok-types.ensures) c.have_wide.ensures c.if-have_wide.false;
      bounds = subst (λ z. Both (IsBoundForm ds) (bound_types z) (bound_types c.in_ok-bounds.bounds)) c.as_slice-4.ensures c.in_ok-bounds.ensures.forms;
      arguments = subst (λ z. AreFormed ds z (all_given c.in_ok-arguments-2.arguments.items)) q c.in_ok-arguments-2.ensures.forms;
    }
