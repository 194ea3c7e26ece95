-- The newest row of a key, when one more is linked.
use Rattle.std.proofs.Common.{◌≡◌, ◌∙◌, ap, sym, subst, refl, ℕ, ◌<◌, ◌≤◌, ◌⊎◌, inl, inr, arith, Bool, true, false, nat_eq, nat_lt, cond, List, [], ◌∷◌, ◌++◌, length, get_or, slice_get, Option, None, Some}
use Rattle.std.specs.List.{Contains}
use Rattle.std.proofs.lemmas.Bool.{eqb-true, eqb-false}
use Rattle.std.proofs.lemmas.List.{get_or-set_same, get_or-set_other}
use Rattle.std.proofs.lemmas.List.Elements.{Contains-append_cases}
use Rattle.jl_calculus.specs.Ranges.{CacheRow}
use Rattle.jl_methods.specs.declared.newest.NewestRow.{NewestRow}
use Rattle.jl_methods.specs.Newest.{newer, newer_at, IsNewest, IsNewestOf}
use Rattle.jl_methods.proofs.FilterLemmas.{here_or_there, none_there}
use Rattle.jl_methods.proofs.PutLemmas.{get_more, get_last}

module _ (rows : List CacheRow) (row : CacheRow) where
  old_or_new : (other : CacheRow) → Contains (rows ++ row ∷ []) other → Contains rows other ⊎ (row ≡ other)
  old_or_new other c = by (Contains-append_cases rows (row ∷ []) other c)
    where
      last : (row ≡ other) ⊎ Contains [] other → Contains rows other ⊎ (row ≡ other)
      last (inl e) = inr e
      last (inr n) = absurd (none_there other [] refl n)

      by : Contains rows other ⊎ Contains (row ∷ []) other → Contains rows other ⊎ (row ≡ other)
      by (inl k) = inl k
      by (inr k) = last (here_or_there row other [] k)

  -- ---- of another key

  newest_other : (key : ℕ) (o : Option NewestRow) → (row.key ≡ key → ⊥) → IsNewestOf rows key o → IsNewestOf (rows ++ row ∷ []) key o
  newest_other key None differs h = λ other c k. by other k (old_or_new other c)
    where
      by : (other : CacheRow) → other.key ≡ key → Contains rows other ⊎ (row ≡ other) → ⊥
      by other k (inl c) = h other c k
      by other k (inr e) = differs (ap (λ (z : CacheRow). z.key) e ∙ k)
  newest_other key (Some m) differs h =
      record { row = h.row; stands = get_more rows row h.row m.number h.stands; of_key = h.of_key; begins = h.begins; latest = λ other c k. by other k (old_or_new other c) }
    where
      by : (other : CacheRow) → other.key ≡ key → Contains rows other ⊎ (row ≡ other) → other.first ≤ m.first
      by other k (inl c) = h.latest other c k
      by other k (inr e) = absurd (differs (ap (λ (z : CacheRow). z.key) e ∙ k))

  -- ---- of its own key

  module _ (new : NewestRow) (number : new.number ≡ length rows) (first : row.first ≡ new.first) where
    is_new : ((other : CacheRow) → Contains rows other → other.key ≡ row.key → other.first ≤ new.first) → IsNewest (rows ++ row ∷ []) row.key new
    is_new before =
        record { row = row; stands = ap (slice_get (rows ++ row ∷ [])) number ∙ get_last rows row; of_key = refl; begins = first; latest = λ other c k. by other k (old_or_new other c) }
      where
        by : (other : CacheRow) → other.key ≡ row.key → Contains rows other ⊎ (row ≡ other) → other.first ≤ new.first
        by other k (inl c) = before other c k
        by other k (inr e) = let w : row.first ≡ other.first = ap (λ (z : CacheRow). z.first) e in omega (arith, w, first)

    is_old : (m : NewestRow) → new.first < m.first → IsNewest rows row.key m → IsNewest (rows ++ row ∷ []) row.key m
    is_old m lt h =
        record { row = h.row; stands = get_more rows row h.row m.number h.stands; of_key = h.of_key; begins = h.begins; latest = λ other c k. by other k (old_or_new other c) }
      where
        by : (other : CacheRow) → other.key ≡ row.key → Contains rows other ⊎ (row ≡ other) → other.first ≤ m.first
        by other k (inl c) = h.latest other c k
        by other k (inr e) = let w : row.first ≡ other.first = ap (λ (z : CacheRow). z.first) e in omega (arith, w, first, lt)

    newest_own : (o : Option NewestRow) → IsNewestOf rows row.key o → IsNewestOf (rows ++ row ∷ []) row.key (Some (newer o new))
    newest_own None h = is_new (λ other c k. absurd (h other c k))
    newest_own (Some m) h = by (nat_lt new.first m.first) refl
      where
        by : (b : Bool) → nat_lt new.first m.first ≡ b → IsNewest (rows ++ row ∷ []) row.key (cond b m new)
        by true e = let lt : new.first < m.first = grind (arith, e) in is_old m lt h
        by false e =
            let le : m.first ≤ new.first = grind (arith, e) in
            is_new (λ other c k. (let w = h.latest other c k in omega (arith, w, le)))

    -- ---- of each key

    pub newest_each : (newest : List (Option NewestRow)) → row.key < length newest → ((n : ℕ) → IsNewestOf rows n (get_or newest n None))
        → (n : ℕ) → IsNewestOf (rows ++ row ∷ []) n (get_or (newer_at newest row.key new) n None)
    newest_each newest l h n = by (nat_eq row.key n) refl
      where
        by : (b : Bool) → nat_eq row.key n ≡ b → IsNewestOf (rows ++ row ∷ []) n (get_or (newer_at newest row.key new) n None)
        by true e =
            subst (λ k. IsNewestOf (rows ++ row ∷ []) k (get_or (newer_at newest row.key new) k None)) (eqb-true row.key n e)
            (subst (IsNewestOf (rows ++ row ∷ []) row.key) (sym (get_or-set_same newest row.key (Some (newer (get_or newest row.key None) new)) None l)) (newest_own (get_or newest row.key None) (h row.key)))
        by false e =
            subst (IsNewestOf (rows ++ row ∷ []) n) (sym (get_or-set_other newest row.key n (Some (newer (get_or newest row.key None) new)) None (λ q. eqb-false row.key n e (sym q))))
            (newest_other n (get_or newest n None) (eqb-false row.key n e) (h n))
