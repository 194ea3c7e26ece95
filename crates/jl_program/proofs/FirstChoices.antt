-- The choices for the calls of the first script.
use Rattle.std.proofs.Common.{◌≡◌, ◌∙◌, refl, sym, ap, subst, ℕ, zero, suc, arith, List, [], ◌∷◌, ◌++◌, map}
use Rattle.std.specs.List.{Contains, flat_map}
use Rattle.jl_model.specs.declared.ty.Ty.{Ty}
use Rattle.jl_model.specs.declared.ty.Ty.TheOpen.{Any, Union, Nominal}
use Rattle.jl_model.specs.declared.ty.Ty.TheVariants as T
use Rattle.jl_model.specs.declared.ty.Ty.TheViews.{rolls-Any, rolls-Union, rolls-Nominal, outs-Any, outs-Nominal}
use Rattle.jl_model.specs.declared.ty.Ty.TheFolds.{fold-roll-Ty, para-roll-Ty}
use Rattle.jl_model.specs.Kinds.{Places, nowhere, plus, places, places_step}
use Rattle.jl_model.specs.Rows.{free, choices, forms, forms_step, alts, components, place_of, vars_in, vars_step, kind, root, Occurs, standing, bounding}
use Rattle.jl_model.specs.Subtype.{Table, opaque, put, put_step, Below, Covered, Found, Part, below, none, more, here, any, nominal, equals_end}
use Rattle.jl_model.specs.Signature.{Row, Both, both_end, both_more, Applicable}
use Rattle.jl_model.specs.Choice.{Method, Applies, IsCandidate, ChoosesMethod}
use Rattle.jl_program.specs.Prelude.{plain, int64, two}
use Rattle.jl_program.specs.declared.choice.Choice.{Choice}
use Rattle.jl_program.specs.declared.choice.Choice.TheVariants as C
use Rattle.jl_program.specs.Chooses.{Chooses}

module _ (at : ℕ → List Ty) where
  pub any_forms : forms at T.Any ≡ T.Any ∷ []
  any_forms = ap (forms at) (sym rolls-Any) ∙ para-roll-Ty (List Ty) (forms_step at) Any

  pub int_forms : forms at int64 ≡ int64 ∷ []
  int_forms = ap (forms at) (sym (rolls-Nominal 4 [])) ∙ para-roll-Ty (List Ty) (forms_step at) (Nominal 4 [])

pub any_vars : vars_in T.Any ≡ []
any_vars = ap vars_in (sym rolls-Any) ∙ fold-roll-Ty (List ℕ) vars_step Any

pub int_vars : vars_in int64 ≡ []
int_vars = ap vars_in (sym (rolls-Nominal 4 [])) ∙ fold-roll-Ty (List ℕ) vars_step (Nominal 4 [])

module _ (f : ℕ → Ty) where
  pub any_put : put f T.Any ≡ T.Any
  any_put = ap (put f) (sym rolls-Any) ∙ fold-roll-Ty Ty (put_step f) Any

  pub int_put : put f int64 ≡ int64
  int_put = ap (put f) (sym (rolls-Nominal 4 [])) ∙ fold-roll-Ty Ty (put_step f) (Nominal 4 [])

-- what stands at the places of variables of such a signature
abbrev pub places_in : List Ty → ℕ → List Ty
places_in us v = place_of (plain us) v (kind (plain us) v)

-- no variable stands in the bounds of a variable that is written without them
pub free_places : (v : ℕ) → plus (places v free.low) (places v free.high) ≡ nowhere
free_places v =
    ap (λ p. plus p (places v T.Any)) (ap (places v) (sym (rolls-Union [])) ∙ fold-roll-Ty Places (places_step v) (Union []))
    ∙ ap (plus nowhere) (ap (places v) (sym rolls-Any) ∙ fold-roll-Ty Places (places_step v) Any)

not_in_none : (v : ℕ) → Contains [] v → ⊥
not_in_none v (k, l, e) = absurd (omega (arith, l))

-- no variable is one of the row of such a signature
pub none_occurs : (us : List Ty) → flat_map vars_in us ≡ [] → (v : ℕ) → Occurs (plain us) v us → ⊥
none_occurs us e v (standing v1 us1 o) = not_in_none v (subst (λ (ws : List ℕ). Contains (map (root (plain us)) ws) v) e o)
none_occurs us e v (bounding v1 w us1 o c) = not_in_none v (subst (λ (ws : List ℕ). Contains ws v) any_vars c)

module _ (n : Table) where
  one_below : (t u : Ty) → alts t ≡ t ∷ [] → alts u ≡ u ∷ [] → Part n opaque t u → Below n opaque t u
  one_below t u d e p =
      below opaque t u (subst (λ (ts : List Ty). Covered n opaque ts (alts u)) (sym d)
      (more opaque t [] (alts u) (subst (λ (us : List Ty). Found n opaque t us) (sym e) (here opaque t u [] p)) (none opaque (alts u))))

  pub int_below_any : Below n opaque int64 T.Any
  int_below_any = one_below int64 T.Any (int_forms _) (any_forms _) (any opaque int64 T.Any outs-Any)

  pub int_below_int : Below n opaque int64 int64
  int_below_int = one_below int64 int64 (int_forms _) (int_forms _) (nominal opaque int64 int64 4 4 [] [] [] (outs-Nominal 4 []) (outs-Nominal 4 []) refl equals_end)

  -- a signature without variables, of a single row
  pub applies_by : (us ts : List Ty) → Contains (components (plain us)) us → flat_map vars_in us ≡ []
      → Both (λ t u. Below n opaque t (put (λ v. T.Any) u)) ts us → Applicable n (plain us) ts
  applies_by us ts c vs b =
      let r : Row = record { parts = us; chosen = λ v. T.Any } in
      let none = none_occurs us vs in (
        r,
        (λ v. T.Any),
        record { parts = c; chosen = λ v k o. absurd (none v (standing v us o)); other = λ v o. refl },
        record { least = λ v o. absurd (none v o); most = λ v o. absurd (none v o); sure = λ v o. absurd (none v o) },
        (λ v. any_vars),
        b,
      )

  pub any_applies : Applicable n (plain (T.Any ∷ [])) (int64 ∷ [])
  any_applies =
      applies_by (T.Any ∷ []) (int64 ∷ [])
      (subst (λ (cs : List (List Ty)). Contains cs (T.Any ∷ [])) (sym (ap (λ fs. choices (fs ∷ [])) (any_forms (places_in (T.Any ∷ []))))) (0, omega arith, refl))
      (ap (λ vs. vs ++ []) any_vars)
      (both_more int64 T.Any [] [] (subst (λ (u : Ty). Below n opaque int64 u) (sym (any_put _)) int_below_any) both_end)

  pub two_apply : Applicable n (plain two) two
  two_apply =
      let b : Below n opaque int64 (put (λ v. T.Any) int64) = subst (λ (u : Ty). Below n opaque int64 u) (sym (int_put _)) int_below_int in
      applies_by two two
      (subst (λ (cs : List (List Ty)). Contains cs two) (sym (ap (λ fs. choices (fs ∷ fs ∷ [])) (int_forms (places_in two)))) (0, omega arith, refl))
      (ap (λ vs. vs ++ (vs ++ [])) int_vars)
      (both_more int64 int64 (int64 ∷ []) (int64 ∷ []) b (both_more int64 int64 [] [] b both_end))

  -- the only method is chosen where it applies
  only_one : (m l : Method) → Contains (m ∷ []) l → m ≡ l
  only_one m l (zero, p, e) = e
  only_one m l (suc k, p, e) = absurd (omega (arith, p))

  pub only_choice : (m : Method) (ts : List Ty) → Applicable n m.sig ts → ChoosesMethod n (m ∷ []) ts m.number
  only_choice m ts a =
      let applies : Applies n (m ∷ []) ts m = record { stands = (0, omega arith, refl); below = a } in
      let candidate : IsCandidate n (m ∷ []) ts m = record {
        applies = applies;
        last = λ l h later same. let e : m.number ≡ l.number = ap (λ (x : Method). x.number) (only_one m l h.stands) in absurd (omega (arith, e, later));
      } in
      (m, record { candidate = candidate; below = λ c h other. absurd (other (ap (λ (x : Method). x.number) (sym (only_one m c h.applies.stands)))) }, refl)

  -- no other choice is made
  pub no_other_choice : (m : Method) (ts : List Ty) → Applicable n m.sig ts → (c : Choice) → Chooses n (m ∷ []) ts c → c ≡ C.Method m.number
  unfolding only_choice
  no_other_choice m ts a (C.Method d) h =
      let e : h.0.number ≡ m.number = ap (λ (x : Method). x.number) (sym (only_one m h.0 h.1.candidate.applies.stands)) in
      ap C.Method (sym h.2 ∙ e)
  no_other_choice m ts a C.None h = absurd (h m (only_choice m ts a).1.candidate)
  no_other_choice m ts a (C.Ambiguous b c) h = absurd (h.none_best m (only_choice m ts a).1)
