use Rattle.std.proofs.Common.{◌≡◌, ◌∙◌, sym, ap, subst, Err, true, false, inl, inr, length}
use Rattle.std.specs.List.{flat_map}
use Rattle.std.proofs.lemmas.Result.{err_from_is_err_and}
use Rattle.jl_types.specs.declared.normal_form.NormFault.TheVariants.{TypeLimit}
use Rattle.jl_model.specs.Ancestors.{table_of}
use Rattle.jl_model.specs.Signature.{Both}
use Rattle.jl_model.specs.Refusals.{bound_types, given_in}
use Rattle.jl_model.specs.SigRefusals.{types_in, are_bounds, ManyRows, VariablePlace}
use Rattle.jl_program.specs.BodyTypes.{without_any_statics}
use Rattle.jl_sig.specs.Parts.{all_given}
use Rattle.jl_sig.specs.Forms.{IsBoundForm, HasTooLarge, AreFormed, HasTooLargeGiven, AreKnown}
use Rattle.jl_sig.specs.Prepared.{IsExpandable}
use Rattle.jl_sig.specs.Fit.{AllFit}
use Rattle.jl_sig.proofs.LimitLemmas.{large_bound, large_argument}
use Rattle.jl_sig.proofs.SigLemmas.{few_nodes, not_wide_here, arguments_known}
use Rattle.jl_body.proofs.FormLemmas.{places, kept_bounds, plain_expandable, no_limit}
use Rattle.jl_body.proofs.forms.small_forms.Goals as goal

pub normal_arguments-requires : goal.normal_arguments-requires
normal_arguments-requires c =
    let ds = c.args.table.now in
    let t = c.args.written.now in
    let e = ap all_given c.as_slice.ensures.value ∙ c.in_ok-arguments.ensures ∙ ap (flat_map given_in) c.requires.types in
    subst (AreKnown ds) (sym e) (arguments_known ds (types_in t) c.requires.known)

pub returns-in_err-arguments-2-clause-limit : goal.returns-in_err-arguments-2-clause-limit
returns-in_err-arguments-2-clause-limit c = λ e.
    let ds = c.args.table.now in
    let t = c.args.written.now in
    let p = err_from_is_err_and c.from_residual-in_err-arguments-2.result c.from_residual-in_err-arguments-2.ensures.1 in
    let f : Err p.0 ≡ Err TypeLimit = sym p.1 ∙ e in
    let g : p.0 ≡ TypeLimit = cc in
    let w : c.normal_arguments.result ≡ Err TypeLimit = c.in_err-arguments-2.was ∙ ap (λ z. Err z) (sym p.2 ∙ g) in
    let x = few_nodes t c.args.types.now c.have_many_nodes.result c.requires.types c.have_many_nodes.ensures c.if-have_many_nodes.false in
    let y = not_wide_here t c.args.types.now c.have_wide.result c.requires.types c.have_wide.ensures c.if-have_wide.false in
    let q = ap all_given c.as_slice.ensures.value ∙ c.in_ok-arguments.ensures ∙ ap (flat_map given_in) c.requires.types in
    inr (inr (inl (large_argument ds c.valid.ensures t x y (subst (HasTooLargeGiven ds) q (c.normal_arguments.ensures.limit w)))))

pub normal_bounds-requires-clause-fit : goal.normal_bounds-requires-clause-fit
normal_bounds-requires-clause-fit c =
    let ds = c.args.table.now in
    let t = c.args.written.now in
    let x = few_nodes t c.args.types.now c.have_many_nodes.result c.requires.types c.have_many_nodes.ensures c.if-have_many_nodes.false in
    let y = not_wide_here t c.args.types.now c.have_wide.result c.requires.types c.have_wide.ensures c.if-have_wide.false in
    let q = ap all_given c.as_slice.ensures.value ∙ c.in_ok-arguments.ensures ∙ ap (flat_map given_in) c.requires.types in
    let a = subst (λ z. AreFormed ds z (all_given c.in_ok-arguments-2.arguments.items)) q c.in_ok-arguments-2.ensures.forms in
    let k = subst (λ z. VariablePlace z → ⊥) c.requires.plain c.requires.placed in
    subst (λ z. AllFit ds (bound_types z)) (sym c.as_slice-2.ensures) (kept_bounds ds c.valid.ensures t c.requires.known k x y (all_given c.in_ok-arguments-2.arguments.items) a)

pub normal_bounds-requires-clause-placed : goal.normal_bounds-requires-clause-placed
normal_bounds-requires-clause-placed c =
    let ds = c.args.table.now in
    let t = c.args.written.now in
    let x = few_nodes t c.args.types.now c.have_many_nodes.result c.requires.types c.have_many_nodes.ensures c.if-have_many_nodes.false in
    let y = not_wide_here t c.args.types.now c.have_wide.result c.requires.types c.have_wide.ensures c.if-have_wide.false in
    let q = ap all_given c.as_slice.ensures.value ∙ c.in_ok-arguments.ensures ∙ ap (flat_map given_in) c.requires.types in
    let a = subst (λ z. AreFormed ds z (all_given c.in_ok-arguments-2.arguments.items)) q c.in_ok-arguments-2.ensures.forms in
    let k = subst (λ z. VariablePlace z → ⊥) c.requires.plain c.requires.placed in
    ap (λ z. are_bounds (length z) 0 z) c.as_slice-2.ensures ∙ places ds c.valid.ensures t c.requires.known k x y (all_given c.in_ok-arguments-2.arguments.items) a

pub returns-in_err-bounds-clause-limit : goal.returns-in_err-bounds-clause-limit
returns-in_err-bounds-clause-limit c = λ e.
    let ds = c.args.table.now in
    let t = c.args.written.now in
    let p = err_from_is_err_and c.from_residual-in_err-bounds.result c.from_residual-in_err-bounds.ensures.1 in
    let f : Err p.0 ≡ Err TypeLimit = sym p.1 ∙ e in
    let g : p.0 ≡ TypeLimit = cc in
    let w : c.normal_bounds.result ≡ Err TypeLimit = c.in_err-bounds.was ∙ ap (λ z. Err z) (sym p.2 ∙ g) in
    let x = few_nodes t c.args.types.now c.have_many_nodes.result c.requires.types c.have_many_nodes.ensures c.if-have_many_nodes.false in
    let y = not_wide_here t c.args.types.now c.have_wide.result c.requires.types c.have_wide.ensures c.if-have_wide.false in
    inr (inr (inl (large_bound ds c.valid.ensures t x y (subst (λ z. HasTooLarge ds (bound_types z)) c.as_slice-2.ensures (c.normal_bounds.ensures.limit w)))))

pub has_many_rows_without-requires-clause-expandable : goal.has_many_rows_without-requires-clause-expandable
has_many_rows_without-requires-clause-expandable c =
    let ds = c.args.table.now in
    let t = c.args.written.now in
    let x = few_nodes t c.args.types.now c.have_many_nodes.result c.requires.types c.have_many_nodes.ensures c.if-have_many_nodes.false in
    let y = not_wide_here t c.args.types.now c.have_wide.result c.requires.types c.have_wide.ensures c.if-have_wide.false in
    let q = ap all_given c.as_slice.ensures.value ∙ c.in_ok-arguments.ensures ∙ ap (flat_map given_in) c.requires.types in
    let a = subst (λ z. AreFormed ds z (all_given c.in_ok-arguments-2.arguments.items)) q c.in_ok-arguments-2.ensures.forms in
    let k = subst (λ z. VariablePlace z → ⊥) c.requires.plain c.requires.placed in
    let b = subst (λ z. Both (IsBoundForm ds) (bound_types z) (bound_types c.in_ok-bounds.bounds)) c.as_slice-2.ensures c.in_ok-bounds.ensures.forms in
    subst (IsExpandable ds (without_any_statics t)) (sym c.as_slice-3.ensures) (plain_expandable ds c.valid.ensures t c.requires.known k x y (all_given c.in_ok-arguments-2.arguments.items) a c.in_ok-bounds.bounds b)

pub returns-then-branch-clause-limit : goal.returns-then-branch-clause-limit
returns-then-branch-clause-limit c = λ e. inr (inr (inr (c.in_ok-has_many_rows_without.ensures.0 c.if-branch.true)))

pub returns-clause-forms : goal.returns-clause-forms
returns-clause-forms c =
    let ds = c.args.table.now in
    let t = c.args.written.now in
    let x = few_nodes t c.args.types.now c.have_many_nodes.result c.requires.types c.have_many_nodes.ensures c.if-have_many_nodes.false in
    let y = not_wide_here t c.args.types.now c.have_wide.result c.requires.types c.have_wide.ensures c.if-have_wide.false in
    let q = ap all_given c.as_slice.ensures.value ∙ c.in_ok-arguments.ensures ∙ ap (flat_map given_in) c.requires.types in
    let a = subst (λ z. AreFormed ds z (all_given c.in_ok-arguments-2.arguments.items)) q c.in_ok-arguments-2.ensures.forms in
    let k = subst (λ z. VariablePlace z → ⊥) c.requires.plain c.requires.placed in
    let b = subst (λ z. Both (IsBoundForm ds) (bound_types z) (bound_types c.in_ok-bounds.bounds)) c.as_slice-2.ensures c.in_ok-bounds.ensures.forms in
    let few : ManyRows (table_of ds) (without_any_statics t) → ⊥ = λ h.
    let g = c.in_ok-has_many_rows_without.ensures.1 h in
    let f : true ≡ false = sym g ∙ c.if-branch.false in cc in
    record {
      bounds = b;
      arguments = a;
      small = no_limit ds c.valid.ensures t c.requires.known k x y (all_given c.in_ok-arguments-2.arguments.items) a c.in_ok-bounds.bounds b few;
    }
