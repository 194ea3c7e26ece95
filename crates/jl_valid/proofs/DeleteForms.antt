-- Deletions: where no fault stands behind one, its place is valid.
use Rattle.std.proofs.Common.{◌≡◌, ◌∙◌, sym, refl, subst, ℕ, ◌<◌, ◌≤◌, arith, Bool, true, false, [], ◌∷◌, length, lt-ltb, append-nil, Option, Some, None}
use Rattle.jl_model.specs.declared.ty.Written.{Written}
use Rattle.jl_program.specs.declared.prelude.TheConstants.{PRELUDE_FUNCTIONS}
use Rattle.jl_program.specs.declared.tree.Expr.TheOpen as V
use Rattle.jl_program.specs.declared.tree.Expr.TheVariants as W
use Rattle.jl_program.specs.declared.tree.Expr.TheViews as X
use Rattle.jl_program.specs.Scope.{View, is_valid_expr, expr_step as valid_step}
use Rattle.jl_program.specs.Valid.{IsValidSig}
use Rattle.jl_program.proofs.ValidLayers.{valid-delete}
use Rattle.jl_typeread.specs.declared.tree.TypeText.{TypeText}
use Rattle.jl_typeread.specs.declared.tree.ArgText.TheViews.{out-TypeText}
use Rattle.jl_grammar.specs.declared.tree.Eval.TheOpen as F
use Rattle.jl_grammar.specs.declared.tree.Name.{Name}
use Rattle.jl_written.specs.declared.fault.StaticKind.TheVariants as kind
use Rattle.jl_resolve_forms.specs.declared.known.Known.{Known}
use Rattle.jl_resolve_forms.specs.declared.state.Scope.{Scope}
use Rattle.jl_resolve_forms.specs.declared.state.Signed.{Signed}
use Rattle.jl_resolve_forms.specs.declared.state.State.{State}
use Rattle.jl_resolve_forms.specs.Functions.{own_function}
use Rattle.jl_resolve_forms.specs.Scopes.{note_if, merge_fault}
use Rattle.jl_resolve_forms.specs.TypesIn.{Tests, start_of}
use Rattle.jl_resolve_forms.specs.Expressions.{if_unknown, defined_function, is_signature, next_delete, delete_signed, deleted_signature, delete_of, delete, expr_step}
use Rattle.jl_valid.specs.Adds.{no_got, got_in, Adds}
use Rattle.jl_valid.specs.Parts.{IsCode, IsGood, IsDeleting, IsKnown}
use Rattle.jl_valid.proofs.FaultLemmas.{no_note, note_if_none, note_if_same, merge_fault_none, merge_fault_same, clean}
use Rattle.jl_valid.proofs.AddsLemmas.{gathers_none, got_is, by_layer}
use Rattle.jl_valid.proofs.FormLemmas.{got_at}
use Rattle.jl_valid.proofs.PlaceForms.{one_longer}
use Rattle.jl_valid.proofs.TypeUses.{own_there, no_kind}

-- a signature of a deletion changes nothing where no fault stands behind it
signed_same : (f at : ℕ) (g : Signed) (s : State) → (delete_signed f at g s).after.fault ≡ None → note_if at g.refusal (merge_fault g.fault s) ≡ s
signed_same f at g s e =
    let m = merge_fault g.fault s in
    let last = note_if_same at g.refusal m e in
    last ∙ merge_fault_same g.fault s (clean m (note_if at g.refusal m) e last)

module _ (t : Tests) (k : Known) where
  of_clean : (b : Bool) (f : ℕ) (ty : TypeText) (types : ℕ) (s : State) → (delete_of t k b f ty types s).after.fault ≡ None → s.fault ≡ None
  of_clean false f ty types s e = absurd (no_note (start_of ty) kind.BadType s e)
  of_clean true f ty types s e =
      let g = deleted_signature t k types ty in
      clean s (note_if (start_of ty) g.refusal (merge_fault g.fault s)) e (signed_same f (start_of ty) g s e)

  -- a fault stays
  pub delete_clean : (n : Name) (ty : TypeText) (c : Scope) (s : State) → (delete t k n ty c s).after.fault ≡ None → s.fault ≡ None
  unfolding delete
  delete_clean n ty c s e =
      let o = if_unknown (own_function k n c) in
      let z = note_if n.at o s in
      let first = of_clean (is_signature (out-TypeText ty)) (defined_function (own_function k n c)) ty c.types z e in
      clean s z first (note_if_same n.at o s first)

  found_from : (o : Option ℕ) → if_unknown o ≡ None → ((p : ℕ) → o ≡ Some p → (p < length k.functions) × (PRELUDE_FUNCTIONS ≤ p)) → (defined_function o < length k.functions) × (PRELUDE_FUNCTIONS ≤ defined_function o)
  found_from None e h = absurd (no_kind kind.UnknownFunction e)
  found_from (Some p) e h = h p refl

  -- one more deletion place
  next_adds : (r : Bool) (v : View) (f : ℕ) (w : Written) (s : State) → s.fault ≡ None → (f < length k.functions) × (PRELUDE_FUNCTIONS ≤ f) → IsValidSig k.decls w
      → Adds k s (next_delete f w s).after [] (got_in (W.Delete (length s.deletes))) (IsCode v r (length s.spawns) (W.Delete (length s.deletes)))
  next_adds r v f w s e there valid =
      let place = length s.deletes in
      let z = (next_delete f w s).after in
      let Holds = IsCode v r (length s.spawns) (W.Delete place) in
      got_is k s z [] no_got (got_in (W.Delete place)) Holds (got_at (V.Delete place) (W.Delete place) (X.rolls-Delete place))
      (record {
        clean = e;
        sites = [];
        spawns = [];
        deletes = record { function = f; sig = w } ∷ [];
        views = [];
        sites_are = sym (append-nil s.sites);
        spawns_are = sym (append-nil s.spawns);
        deletes_are = refl;
        as_many = refl;
        free = tt;
        deletions = (record { function = there.0; past_prelude = there.1; signature = valid }, tt);
        gathers = gathers_none k (length s.spawns);
        valid = λ P all b. tt;
        tasks = λ P all b. refl;
        holds = λ P all b. by_layer v r (length s.spawns) (is_valid_expr P all (W.Delete place)) (valid_step P all (V.Delete place)) (valid-delete P all place)
            (λ least l. lt-ltb place (length P.deletes) (omega (arith, b.deletes, one_longer s.deletes (record { function = f; sig = w }))));
      })

  of_adds :
      (b : Bool) (f : ℕ) (ty : TypeText) (types : ℕ) (r : Bool) (v : View) (s : State) → IsDeleting k t ty → (f < length k.functions) × (PRELUDE_FUNCTIONS ≤ f)
      → (delete_of t k b f ty types s).after.fault ≡ None
      → Adds k s (delete_of t k b f ty types s).after [] (got_in (delete_of t k b f ty types s).value) (IsCode v r (length s.spawns) (delete_of t k b f ty types s).value)
  of_adds false f ty types r v s good there e = absurd (no_note (start_of ty) kind.BadType s e)
  of_adds true f ty types r v s good there e =
      let at = start_of ty in
      let g = deleted_signature t k types ty in
      let m = merge_fault g.fault s in
      let z = note_if at g.refusal m in
      let same = signed_same f at g s e in
      let valid = good types (merge_fault_none g.fault s (clean m z e (note_if_same at g.refusal m e))) (note_if_none at g.refusal m e) in
      subst (λ (y : State). Adds k s (next_delete f g.sig y).after [] (got_in (W.Delete (length y.deletes))) (IsCode v r (length s.spawns) (W.Delete (length y.deletes)))) (sym same)
      (next_adds r v f g.sig s (clean s z e same) there valid)

  pub delete_good : IsKnown k → (r : Bool) (at : ℕ) (n : Name) (ty : TypeText) → IsDeleting k t ty → IsGood k r [] (expr_step t k (F.Delete at n ty))
  unfolding delete
  delete_good known r at n ty good c v s see e =
      let o = own_function k n c in
      let b = is_signature (out-TypeText ty) in
      let z = note_if n.at (if_unknown o) s in
      let first = of_clean b (defined_function o) ty c.types z e in
      let there = found_from o (note_if_none n.at (if_unknown o) s first) (own_there k known n c) in
      let end = delete_of t k b (defined_function o) ty c.types z in
      subst (λ (y : State). Adds k y end.after [] (got_in end.value) (IsCode v r (length y.spawns) end.value)) (note_if_same n.at (if_unknown o) s first)
      (of_adds b (defined_function o) ty c.types r v z good there e)
