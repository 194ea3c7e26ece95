-- Normal forms of the types of a key.
use Rattle.std.proofs.Common.{◌≡◌, ◌∙◌, ap, sym, refl, subst, arith, ℕ, zero, suc, ◌+◌, ◌≤◌, ◌<◌, inl, inr, Bool, true, false, ◌&&◌, IsTrue, List, [], ◌∷◌, ◌++◌, append_assoc, append-nil, length, drop, get_or, Option, Some, None}
use Rattle.std.specs.List.{list_all}
use Rattle.std.proofs.lemmas.List.{drop_more, drop_all}
use Rattle.jl_model.specs.declared.ty.Decl.{Decl}
use Rattle.jl_model.specs.declared.ty.Ty.{Ty, out-Ty}
use Rattle.jl_model.specs.declared.ty.Ty.TheOpen.{Ty-F}
use Rattle.jl_model.specs.declared.ty.Ty.TheOpen as L
use Rattle.jl_model.specs.declared.ty.Ty.TheViews as V
use Rattle.jl_model.specs.Ancestors.{table_of}
use Rattle.jl_model.specs.Refusals.{Declared}
use Rattle.jl_model.specs.Subtype.{opaque, is_concrete}
use Rattle.jl_model.specs.Valid.{IsValidType, is_known, is_counted, is_closed}
use Rattle.jl_sig.proofs.BoundLemmas.{one_form}
use Rattle.jl_reflect.specs.Asked.{IsForm, IsValueForm, IsTupleOf, AreValueForms, AreKeyTypes, MeansTypes, Finds}

-- what is found, from how it was found
pub found_some : {A : Type 0} (R : A → Type 0) (o : Option A) (a : A) → o ≡ Some a → Finds R o → R a
found_some R o a e h = subst (Finds R) e h

pub found_none : {A : Type 0} (R : A → Type 0) (o : Option A) → o ≡ None → Finds R o → (a : A) → R a → ⊥
found_none R o e h = subst (Finds R) e h

-- ---- tuples

tuple_step : Ty-F Ty → List Ty
tuple_step (L.Tuple ts) = ts
tuple_step L.Any = []
tuple_step (L.Union ts) = []
tuple_step (L.Nominal k ts) = []
tuple_step (L.Var v) = []

same_parts : (ps qs : List Ty) → V.Tuple ps ≡ V.Tuple qs → ps ≡ qs
unfolding tuple_step
same_parts ps qs e = sym (ap tuple_step (V.outs-Tuple ps)) ∙ ap (λ t. tuple_step (out-Ty t)) e ∙ ap tuple_step (V.outs-Tuple qs)

module _ (ds : List Decl) (declared : Declared ds) where
  -- ---- one type

  pub form_once : (t u v : Ty) → IsForm ds t u → IsForm ds t v → u ≡ v
  form_once t u v f g = one_form ds declared t u v f.form g.form

  -- a form that fails a test is none of a value
  not_value : (t u : Ty) → IsForm ds t u → (p : Ty → Bool) → p u ≡ false → (v : Ty) → IsValueForm ds t v → p v ≡ true → ⊥
  not_value t u f p fails v h passes = let e : p u ≡ p v = ap p (form_once t u v f h.form) in cc

  pub not_closed : (t u : Ty) → IsForm ds t u → (b : Bool) → b ≡ is_closed u → b ≡ false → (v : Ty) → IsValueForm ds t v → ⊥
  not_closed t u f b e fails v h = not_value t u f is_closed (sym e ∙ fails) v h h.value.closed

  pub not_concrete : (t u : Ty) → IsForm ds t u → (b : Bool) → b ≡ is_concrete (table_of ds) opaque u → b ≡ false → (v : Ty) → IsValueForm ds t v → ⊥
  not_concrete t u f b e fails v h = not_value t u f (is_concrete (table_of ds) opaque) (sym e ∙ fails) v h h.value.concrete

  value_once : (t u v : Ty) → IsValueForm ds t u → IsValueForm ds t v → u ≡ v
  value_once t u v f g = form_once t u v f.form g.form

  -- ---- the parts of the tuple that a type is

  pub form_tuple : (t u : Ty) → IsForm ds t u → (o : Option (List Ty)) → Finds (λ ps. u ≡ V.Tuple ps) o → Finds (λ ps. IsForm ds t (V.Tuple ps)) o
  form_tuple t u f None h = λ ps g. h ps (form_once t u (V.Tuple ps) f g)
  form_tuple t u f (Some ps) h = subst (IsForm ds t) h f

  parts_once : (t : Ty) (ps qs : List Ty) → IsTupleOf ds t ps → IsTupleOf ds t qs → ps ≡ qs
  parts_once t ps qs (inl e) (inl f) = same_parts ps qs (sym e ∙ f)
  parts_once t ps qs (inl e) (inr f) = absurd (f.other ps e)
  parts_once t ps qs (inr e) (inl f) = absurd (e.other qs f)
  parts_once t ps qs (inr e) (inr f) = same_parts ps qs (form_once t (V.Tuple ps) (V.Tuple qs) e.form f.form)

  -- ---- the forms of the parts

  forms_once : (ts us vs : List Ty) → AreValueForms ds ts us → AreValueForms ds ts vs → us ≡ vs
  forms_once [] [] [] f g = refl
  forms_once [] [] (v ∷ vs) f g = absurd g
  forms_once [] (u ∷ us) vs f g = absurd f
  forms_once (t ∷ ts) [] vs f g = absurd f
  forms_once (t ∷ ts) (u ∷ us) [] f g = absurd g
  forms_once (t ∷ ts) (u ∷ us) (v ∷ vs) f g = ap (λ x. x ∷ us) (value_once t u v f.0 g.0) ∙ ap (λ xs. v ∷ xs) (forms_once ts us vs f.1 g.1)

  pub types_once : (t : Ty) (us vs : List Ty) → MeansTypes ds t us → MeansTypes ds t vs → us ≡ vs
  types_once t us vs m n =
      let same : m.parts ≡ n.parts = parts_once t m.parts n.parts m.tuple n.tuple in
      forms_once m.parts us vs m.types.each (subst (λ ps. AreValueForms ds ps vs) (sym same) n.types.each)

  pub types_found : (t : Ty) (ps : List Ty) → IsTupleOf ds t ps → (o : Option (List Ty)) → Finds (AreKeyTypes ds ps) o → Finds (MeansTypes ds t) o
  types_found t ps e None h = λ us m. h us (subst (λ xs. AreKeyTypes ds xs us) (parts_once t m.parts ps m.tuple e) m.types)
  types_found t ps e (Some us) h = record { parts = ps; tuple = e; types = h }

module _ (ds : List Decl) where
  -- a part without a form
  pub part_missing : (ts us : List Ty) → AreValueForms ds ts us → (i : ℕ) (t : Ty) → i < length ts → get_or ts i t ≡ t → ((u : Ty) → IsValueForm ds t u → ⊥) → ⊥
  part_missing [] us h i t l e none = omega (arith, l)
  part_missing (x ∷ xs) [] h i t l e none = h
  part_missing (x ∷ xs) (u ∷ us) h zero t l e none = none u (subst (λ z. IsValueForm ds z u) e h.0)
  part_missing (x ∷ xs) (u ∷ us) h (suc i) t l e none = part_missing xs us h.1 i t (omega (arith, l)) e none

  abbrev pub AreFirst : List Ty → List Ty → ℕ → Type 0
  AreFirst ts forms i = (us : List Ty) → AreValueForms ds (drop i ts) us → AreValueForms ds ts (forms ++ us)

  -- one more part with its form
  pub one_more : (ts forms : List Ty) (i : ℕ) (t u : Ty) → i < length ts → get_or ts i t ≡ t → IsValueForm ds t u → AreFirst ts forms i → AreFirst ts (forms ++ u ∷ []) (i + 1)
  one_more ts forms i t u l e f first = λ us rest.
      let cut : drop i ts ≡ t ∷ drop (i + 1) ts = drop_more ts i t l ∙ ap (λ z. z ∷ drop (i + 1) ts) e in
      subst (AreValueForms ds ts) (sym (append_assoc forms (u ∷ []) us)) (first (u ∷ us) (subst (λ xs. AreValueForms ds xs (u ∷ us)) (sym cut) (f, rest)))

  pub all_forms : (ts forms : List Ty) (i : ℕ) → length ts ≤ i → AreFirst ts forms i → AreValueForms ds ts forms
  all_forms ts forms i l first =
      subst (AreValueForms ds ts) (append-nil forms) (first [] (subst (λ xs. AreValueForms ds xs []) (sym (drop_all i ts l)) tt))

  -- a valid type has a valid form
  pub valid_form : (t f : Ty) (b : Bool) (ts : List Ty) → ts ≡ t ∷ [] → b ≡ list_all (is_counted ds) ts → b ≡ true → IsTrue (is_known (length ds) f) → (IsTrue (is_counted ds t) → IsTrue (is_counted ds f)) →
      (u : Ty) → Some f ≡ Some u → IsValidType ds u
  valid_form t f b ts one e passes known counted u same =
      let all : is_counted ds t && true ≡ true = sym (ap (list_all (is_counted ds)) one) ∙ sym e ∙ passes in
      let is : f ≡ u = cc in
      subst (IsValidType ds) is (record { known = known; counted = counted (first (is_counted ds t) all) })
    where
      first : (a : Bool) → a && true ≡ true → a ≡ true
      first true h = refl
      first false h = h
