-- All lists of a few types, in the order of a dictionary.
use Rattle.std.proofs.Common.{◌≡◌, ◌∙◌, sym, ap, subst, refl, ℕ, zero, suc, ◌⊎◌, inl, inr, arith, List, [], ◌∷◌, ◌++◌, length}
use Rattle.std.specs.List.{Contains}
use Rattle.std.specs.Cmp.Lexicographic.{slice_cmp}
use Rattle.std.specs.Ordering.{ordering_then}
use Rattle.std.specs.declared.cmp.Ordering.{Ordering}
use Rattle.std.specs.declared.cmp.Ordering.TheVariants.{Less, Equal, Greater}
use Rattle.std.proofs.lemmas.List.{length_push}
use Rattle.std.proofs.lemmas.List.Elements.{Contains-append_left, Contains-push, Contains-push_cases}
use Rattle.jl_model.specs.declared.ty.Ty.{Ty}
use Rattle.jl_model.specs.Order.{term_cmp}
use Rattle.jl_model.proofs.OrderLemmas.{tied_self}
use Rattle.jl_methods.proofs.FilterLemmas.{here, there, here_or_there}
use Rattle.jl_ambig.specs.Probes.{with_each, longer, lists_of}
use Rattle.jl_ambig.proofs.Members.{empty, in_map, of_map, in_flat, of_flat}
use Rattle.jl_ambig.proofs.Sorted.{Rises, rises_append}

abbrev pub order : List Ty → List Ty → Ordering
order us ts = slice_cmp term_cmp us ts

abbrev end : List Ty → Ty → List Ty
end ts t = ts ++ t ∷ []

-- ---- which they are

module _ (types : List Ty) where
  abbrev pub AreOf : ℕ → List Ty → Type 0
  AreOf n ts = ((t : Ty) → Contains ts t → Contains types t) × (length ts ≡ n)

  pub of_lists : (n : ℕ) (ts : List Ty) → Contains (lists_of types n) ts → AreOf n ts
  of_lists zero ts c = by (here_or_there [] ts [] c)
    where
      by : ([] ≡ ts) ⊎ Contains [] ts → AreOf zero ts
      by (inl e) = subst (AreOf zero) e (λ t k. absurd (empty t k), refl)
      by (inr k) = absurd (empty ts k)
  of_lists (suc n) ts c =
      let (us, k, d) = of_flat (λ (us : List Ty). with_each us types) (lists_of types n) ts c in
      let (t, m, e) = of_map (λ (t : Ty). us ++ t ∷ []) types ts d in
      let h = of_lists n us k in
      let long = length_push us t in
      subst (AreOf (suc n)) e (λ u l. by us t m h.0 u (Contains-push_cases us t u l), omega (arith, long, h.1))
    where
      by : (us : List Ty) (t : Ty) → Contains types t → ((u : Ty) → Contains us u → Contains types u) → (u : Ty) → Contains us u ⊎ (t ≡ u) → Contains types u
      by us t m f u (inl l) = f u l
      by us t m f u (inr q) = subst (Contains types) q m

  -- a list that is not empty has a last element
  snoc : (x : Ty) (xs : List Ty) → (us : List Ty) × (t : Ty) × (x ∷ xs ≡ end us t)
  snoc x [] = ([], x, refl)
  snoc x (y ∷ xs) = let (us, t, e) = snoc y xs in (x ∷ us, t, ap (λ zs. x ∷ zs) e)

  pub in_lists : (n : ℕ) (ts : List Ty) → AreOf n ts → Contains (lists_of types n) ts
  in_lists zero [] h = here [] [] [] refl
  in_lists zero (t ∷ ts) h = absurd (omega (arith, h.1))
  in_lists (suc n) [] h = absurd (omega (arith, h.1))
  in_lists (suc n) (x ∷ xs) h = by (in_lists n) (snoc x xs)
    where
      by : ((us : List Ty) → AreOf n us → Contains (lists_of types n) us) → (us : List Ty) × (t : Ty) × (x ∷ xs ≡ end us t) → Contains (lists_of types (suc n)) (x ∷ xs)
      by more (us, t, e) =
          let long = length_push us t in
          let whole : AreOf (suc n) (end us t) = subst (AreOf (suc n)) e h in
          let short : AreOf n us = (λ u c. whole.0 u (Contains-append_left us (t ∷ []) u c), omega (arith, long, whole.1)) in
          let own : Contains types t = whole.0 t (Contains-push us t) in
          subst (Contains (lists_of types (suc n))) (sym e)
          (in_flat (λ (us : List Ty). with_each us types) (lists_of types n) us (end us t) (more us short) (in_map (λ (t : Ty). us ++ t ∷ []) types t own))

-- ---- their order

then_less : (o : Ordering) (r s : Ordering) → (r ≡ Less → s ≡ Less) → ordering_then o r ≡ Less → ordering_then o s ≡ Less
then_less Less r s f e = refl
then_less Equal r s f e = f e
then_less Greater r s f e = e

-- where lists of one length differ, so do those with one more at the end
apart : (us vs : List Ty) (t u : Ty) → length us ≡ length vs → order us vs ≡ Less → order (end us t) (end vs u) ≡ Less
apart [] [] t u l e = cc
apart [] (v ∷ vs) t u l e = absurd (omega (arith, l))
apart (x ∷ us) [] t u l e = absurd (omega (arith, l))
apart (x ∷ us) (v ∷ vs) t u l e = then_less (term_cmp x v) (order us vs) (order (end us t) (end vs u)) (apart us vs t u (omega (arith, l))) e

first_less : (o : Ordering) → o ≡ Less → ordering_then o Equal ≡ Less
first_less Less e = refl
first_less Equal e = e
first_less Greater e = e

then_same : (o r : Ordering) → o ≡ Equal → r ≡ Less → ordering_then o r ≡ Less
then_same Less r e q = refl
then_same Equal r e q = q
then_same Greater r e q = cc

-- the last ones decide where all before them are the same
at_end : (us : List Ty) (t u : Ty) → term_cmp t u ≡ Less → order (end us t) (end us u) ≡ Less
at_end [] t u e = first_less (term_cmp t u) e
at_end (x ∷ us) t u e = then_same (term_cmp x x) (order (end us t) (end us u)) (tied_self x) (at_end us t u e)

rises_each : (us : List Ty) (types : List Ty) → Rises term_cmp types → Rises order (with_each us types)
rises_each us [] h = tt
rises_each us (t ∷ types) h = (first, rises_each us types h.1)
  where
    first : (ts : List Ty) → Contains (with_each us types) ts → order (end us t) ts ≡ Less
    first ts c =
        let (u, k, e) = of_map (λ (t : Ty). us ++ t ∷ []) types ts c in
        subst (λ z. order (end us t) z ≡ Less) e (at_end us t u (h.0 u k))

rises_longer : (n : ℕ) (lists : List (List Ty)) (types : List Ty) → ((ts : List Ty) → Contains lists ts → length ts ≡ n) → Rises order lists → Rises term_cmp types → Rises order (longer lists types)
rises_longer n [] types l h k = tt
rises_longer n (us ∷ lists) types l h k =
    rises_append order (with_each us types) (longer lists types) (rises_each us types k) (rises_longer n lists types (λ ts c. l ts (there us ts lists c)) h.1 k) between
  where
    between : (a b : List Ty) → Contains (with_each us types) a → Contains (longer lists types) b → order a b ≡ Less
    between a b c d =
        let (t, m, e) = of_map (λ (t : Ty). us ++ t ∷ []) types a c in
        let (vs, i, j) = of_flat (λ (us : List Ty). with_each us types) lists b d in
        let (u, q, f) = of_map (λ (t : Ty). vs ++ t ∷ []) types b j in
        let same : length us ≡ length vs = l us (here us us lists refl) ∙ sym (l vs (there us vs lists i)) in
        subst (λ z. order a z ≡ Less) f (subst (λ z. order z (end vs u) ≡ Less) e (apart us vs t u same (h.0 vs i)))

pub rises_lists : (types : List Ty) (n : ℕ) → Rises term_cmp types → Rises order (lists_of types n)
rises_lists types zero h = (λ ts c. absurd (empty ts c), tt)
rises_lists types (suc n) h = rises_longer n (lists_of types n) types (λ ts c. (of_lists types n ts c).1) (rises_lists types n h) h
