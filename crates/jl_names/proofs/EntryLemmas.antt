-- The entries of a map as names with numbers.
use Rattle.std.proofs.Common.{◌≡◌, ◌∙◌, refl, sym, ap, ℕ, Bool, true, false, cond, if◌then◌else◌, ◌&&◌, ◌==◌, nat_eq, List, [], ◌∷◌, ◌++◌, map, take, zero, suc, Option, Some, None, is_some}
use Rattle.std.specs.Cmp.Lexicographic.{pointwise}
use Rattle.std.specs.Map.{lookup, set_value}
use Rattle.indexmap.specs.IndexMap.{insert_entry}
use Rattle.jl_program.specs.Names.{same_text}
use Rattle.jl_names.specs.Numbers.{Numbered, number_in, with_number, renumber, with_newer}

pub same_bytes : (a b : List ℕ) → pointwise nat_eq a b ≡ same_text a b
same_bytes [] [] = refl
same_bytes [] (y ∷ ys) = refl
same_bytes (x ∷ xs) [] = refl
same_bytes (x ∷ xs) (y ∷ ys) = ap (λ b. (x == y) && b) (same_bytes xs ys)

-- where a name has no number, nothing changes
pub renumber_none : (name : List ℕ) (v : ℕ) (es : List Numbered) → number_in es name ≡ None → renumber es (name, v) ≡ es
renumber_none name v [] h = refl
renumber_none name v (e ∷ es) h = by (same_text name e.0) refl h (renumber_none name v es)
  where
    by : (b : Bool) → same_text name e.0 ≡ b → cond b (Some e.1) (number_in es name) ≡ None → (number_in es name ≡ None → renumber es (name, v) ≡ es) → cond b ((e.0, v) ∷ es) (e ∷ renumber es (name, v)) ≡ e ∷ es
    by true g f r = absurd (let z : Some e.1 ≡ None = f in cc)
    by false g f r = ap (λ z. e ∷ z) (r f)

module _ {K : Type 0} (items : K → List ℕ) where
  abbrev pub pairs : List (K × ℕ) → List Numbered
  pairs es = map (λ e. (items e.0, e.1)) es

  pub looked : (test : K → Bool) (name : List ℕ) → ((k : K) → test k ≡ same_text name (items k)) → (es : List (K × ℕ)) → lookup test es ≡ number_in (pairs es) name
  looked test name h [] = refl
  looked test name h (e ∷ es) = ap (λ b. cond b (Some e.1) (lookup test es)) (h e.0) ∙ ap (cond (same_text name (items e.0)) (Some e.1)) (looked test name h es)

  inserted : (eq : K → K → Bool) (k : K) (v : ℕ) → ((x : K) → eq k x ≡ same_text (items k) (items x)) → (es : List (K × ℕ)) → pairs (insert_entry eq es k v) ≡ with_newer (pairs es) (items k, v)
  inserted eq k v h [] = refl
  inserted eq k v h (e ∷ es) =
      ap (λ b. pairs (if b then (e.0, v) ∷ es else e ∷ insert_entry eq es k v)) (h e.0)
      ∙ by (same_text (items k) (items e.0)) (number_in (pairs es) (items k)) (inserted eq k v h es)
    where
      by : (b : Bool) (o : Option ℕ) → pairs (insert_entry eq es k v) ≡ cond (is_some o) (renumber (pairs es) (items k, v)) (pairs es ++ (items k, v) ∷ [])
          → pairs (if b then (e.0, v) ∷ es else e ∷ insert_entry eq es k v)
          ≡ cond (is_some (cond b (Some e.1) o)) (cond b ((items e.0, v) ∷ pairs es) ((items e.0, e.1) ∷ renumber (pairs es) (items k, v))) ((items e.0, e.1) ∷ (pairs es ++ (items k, v) ∷ []))
      by true o r = refl
      by false None r = ap (λ z. (items e.0, e.1) ∷ z) r
      by false (Some n) r = ap (λ z. (items e.0, e.1) ∷ z) r

  -- another number for a name
  pub renumber_is : (test : K → Bool) (name : List ℕ) (v : ℕ) → ((k : K) → test k ≡ same_text name (items k)) → (es : List (K × ℕ)) → pairs (set_value test es v) ≡ renumber (pairs es) (name, v)
  renumber_is test name v h [] = refl
  renumber_is test name v h (e ∷ es) =
      by (test e.0) ∙ ap (λ b. cond b ((items e.0, v) ∷ pairs es) ((items e.0, e.1) ∷ pairs (set_value test es v))) (h e.0)
      ∙ ap (λ z. cond (same_text name (items e.0)) ((items e.0, v) ∷ pairs es) ((items e.0, e.1) ∷ z)) (renumber_is test name v h es)
    where
      by : (b : Bool) → pairs (cond b ((e.0, v) ∷ es) (e ∷ set_value test es v)) ≡ cond b ((items e.0, v) ∷ pairs es) ((items e.0, e.1) ∷ pairs (set_value test es v))
      by true = refl
      by false = refl

  pub cut : (most : ℕ) (es : List (K × ℕ)) → pairs (take most es) ≡ take most (pairs es)
  cut zero es = refl
  cut (suc n) [] = refl
  cut (suc n) (e ∷ es) = ap (λ z. (items e.0, e.1) ∷ z) (cut n es)

  -- one more name, or another number for one that has a number
  pub newer : (eq : K → K → Bool) (k : K) (v : ℕ) (es fs : List (K × ℕ)) (name : List ℕ) (old : List Numbered)
      → fs ≡ insert_entry eq es k v → ((x : K) → eq k x ≡ same_text (items k) (items x)) → items k ≡ name → pairs es ≡ old → pairs fs ≡ with_newer old (name, v)
  newer eq k v es fs name old f h i e = ap pairs f ∙ inserted eq k v h es ∙ ap (λ z. with_newer z (items k, v)) e ∙ ap (λ z. with_newer old (z, v)) i

-- another number, and then the number before again
put_back : (name : List ℕ) (v k : ℕ) (es : List Numbered) → number_in es name ≡ Some k → renumber (renumber es (name, v)) (name, k) ≡ es
put_back name v k [] h = refl
put_back name v k (e ∷ es) h = by (same_text name e.0) refl h (put_back name v k es)
  where
    by : (b : Bool) → same_text name e.0 ≡ b → cond b (Some e.1) (number_in es name) ≡ Some k → (number_in es name ≡ Some k → renumber (renumber es (name, v)) (name, k) ≡ es)
        → renumber (cond b ((e.0, v) ∷ es) (e ∷ renumber es (name, v))) (name, k) ≡ e ∷ es
    by true p g r =
        let n : e.1 ≡ k = (let f : Some e.1 ≡ Some k = g in cc) in
        ap (λ b. cond b ((e.0, k) ∷ es) ((e.0, v) ∷ renumber es (name, k))) p ∙ ap (λ z. (e.0, z) ∷ es) (sym n)
    by false p g r = ap (λ b. cond b ((e.0, k) ∷ renumber es (name, v)) (e ∷ renumber (renumber es (name, v)) (name, k))) p ∙ ap (λ z. e ∷ z) (r g)

-- a name that had a number has it again
pub known_name : (name : List ℕ) (v k : ℕ) (es fs gs : List Numbered) → number_in es name ≡ Some k → fs ≡ with_newer es (name, v) → gs ≡ renumber fs (name, k) → gs ≡ with_number es (name, v)
known_name name v k es fs gs h f g =
    g ∙ ap (λ z. renumber z (name, k)) (f ∙ ap (λ o. cond (is_some o) (renumber es (name, v)) (es ++ (name, v) ∷ [])) h) ∙ put_back name v k es h
    ∙ sym (ap (λ o. cond (is_some o) es (es ++ (name, v) ∷ [])) h)
