-- The type of a struct without parameters is allowed in a body.
use Rattle.std.proofs.Common.{zero, suc, eq-eqb, eqb-true, ◌⊎◌, ◌≡◌, ◌∙◌, refl, sym, ap, subst, ℕ, ◌<◌, arith, Bool, true, true≢false, nat_eq, List, [], ◌∷◌, ◌++◌, map, length, slice_get, inl, inr}
use Rattle.std.specs.List.{Contains, flat_map}
use Rattle.jl_model.specs.declared.ty.Ty.{Ty}
use Rattle.jl_model.specs.declared.ty.Ty.TheOpen.{Nominal}
use Rattle.jl_model.specs.declared.ty.Ty.TheViews.{rolls-Nominal}
use Rattle.jl_model.specs.declared.ty.Ty.TheFolds.{fold-roll-Ty, para-roll-Ty}
use Rattle.jl_model.specs.declared.ty.Decl.{Decl}
use Rattle.jl_model.specs.declared.ty.Written.{Written}
use Rattle.jl_model.specs.Ancestors.{named, table_of}
use Rattle.jl_model.specs.Counts.{nodes, nodes_step, Raw, raw, raw_step}
use Rattle.jl_model.specs.Rows.{forms, forms_step, choices, place_of, kind}
use Rattle.jl_model.specs.Valid.{is_counted, counted_step, params_of}
use Rattle.jl_model.specs.Refusals.{Given, given_in, given_step}
use Rattle.jl_model.specs.AllRows.{rows_with}
use Rattle.jl_model.specs.SigRefusals.{is_component, component_step, VariablePlace, ManyNodes, ManyAlternatives, LargeForm, ManyRows}
use Rattle.jl_model.proofs.FormLemmas.{put-nominal}
use Rattle.jl_program.specs.BodyTypes.{IsAllowedType, own_or_any, without_statics}
use Rattle.jl_resolve_forms.specs.TypesIn.{one_type}
use Rattle.jl_valid.proofs.AddsLemmas.{and}

none_in : {X : Type 0} (x : X) (xs : List X) → xs ≡ [] → Contains xs x → ⊥
none_in x [] e (k, l, d) = absurd (omega (arith, l))
none_in x (y ∷ ys) e c = cc

alone : (t u : Ty) → Contains (t ∷ []) u → t ≡ u
alone t u (zero, l, e) = e
alone t u (suc k, l, e) = absurd (omega (arith, l))

module _ (ds : List Decl) (p : ℕ) (bare : nat_eq (length (params_of (slice_get ds p))) 0 ≡ true) where
  abbrev t : Ty
  t = named p

  abbrev s : Written
  s = one_type (named p) []

  of_nodes : nodes t ≡ 1
  of_nodes = ap nodes (sym (rolls-Nominal p [])) ∙ fold-roll-Ty ℕ nodes_step (Nominal p [])

  widest : (raw t).widest ≡ 1
  widest = ap (λ t. (raw t).widest) (sym (rolls-Nominal p [])) ∙ ap (λ r. r.widest) (fold-roll-Ty Raw raw_step (Nominal p []))

  component : is_component t ≡ true
  component = ap is_component (sym (rolls-Nominal p [])) ∙ para-roll-Ty Bool component_step (Nominal p [])

  same_back : (a b : ℕ) → nat_eq a b ≡ true → nat_eq b a ≡ true
  same_back a b e = eq-eqb b a (sym (eqb-true a b e))

  counts : is_counted ds t ≡ true
  counts = ap (is_counted ds) (sym (rolls-Nominal p [])) ∙ fold-roll-Ty Bool (counted_step ds) (Nominal p []) ∙ and (nat_eq 0 (length (params_of (slice_get ds p)))) true (same_back (length (params_of (slice_get ds p))) 0 bare) refl

  given : given_in t ≡ []
  given = ap given_in (sym (rolls-Nominal p [])) ∙ para-roll-Ty (List Given) given_step (Nominal p [])

  form : (at : ℕ → List Ty) → forms at t ≡ t ∷ []
  form at = ap (forms at) (sym (rolls-Nominal p [])) ∙ para-roll-Ty (List Ty) (forms_step at) (Nominal p [])

  no_given : flat_map given_in (t ∷ []) ≡ []
  no_given = ap (λ (xs : List Given). xs ++ []) given

  one_choice : (at : ℕ → List Ty) → choices (map (forms at) (t ∷ [])) ≡ (t ∷ []) ∷ []
  one_choice at = ap (λ fs. choices (fs ∷ [])) (form at)

  -- no static parameter stands in it
  without : without_statics s ≡ s
  without = ap (λ z. one_type z []) (put-nominal (own_or_any 0) p [])

  placed : VariablePlace s → ⊥
  placed e = true≢false (sym (and (is_component t) true component refl) ∙ e)

  few_rows : ManyRows (table_of ds) s → ⊥
  few_rows (picks, hold, rows) =
      absurd (omega (arith, subst (λ (rs : List (List Ty)). 256 < length (flat_map (rows_with s picks) rs)) (one_choice (λ v. place_of s v (kind s v))) rows))

  small : ManyNodes s ⊎ ManyAlternatives s ⊎ LargeForm (table_of ds) s ⊎ ManyRows (table_of ds) (without_statics s) → ⊥
  small (inl many_nodes) = omega (arith, many_nodes, of_nodes)
  small (inr (inl (u, c, wide))) = omega (arith, wide, ap (λ z. (raw z).widest) (alone t u c), widest)
  small (inr (inr (inl (u, w, (inl c, closed), f, large)))) = none_in u [] refl c
  small (inr (inr (inl (u, w, (inr (g, c, e), closed), f, large)))) = none_in g (flat_map given_in (t ∷ [])) no_given c
  small (inr (inr (inr rows))) = few_rows (subst (ManyRows (table_of ds)) without rows)

  pub bare_allowed : IsAllowedType ds s
  bare_allowed = record {
    placed = λ e. placed (subst VariablePlace without e);
    used = λ u. omega (arith, u.1);
    few = λ l. omega (arith, l);
    counted = λ e. true≢false (sym (and (is_counted ds t) true counts refl) ∙ e);
    small = small;
    ordered = λ b. none_in b.0 [] refl b.1;
    within = λ b. none_in b.0 (flat_map given_in (t ∷ [])) no_given b.1;
  }
