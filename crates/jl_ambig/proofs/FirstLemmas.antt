-- The first types, in order, when one more comes.
use Rattle.std.proofs.Common.{◌≡◌, ◌∙◌, sym, ap, subst, refl, ℕ, zero, suc, ◌+◌, ◌<◌, ◌≤◌, ◌⊎◌, inl, inr, arith, List, [], ◌∷◌, ◌++◌, length, take, drop}
use Rattle.std.specs.List.{Contains}
use Rattle.std.specs.declared.cmp.Ordering.TheVariants.{Less}
use Rattle.std.proofs.lemmas.List.{length-take, length-append, take-append-drop}
use Rattle.std.proofs.lemmas.List.Elements.{Contains-append_left, Contains-push, Contains-push_cases}
use Rattle.std.proofs.Math.Seq.{length-take-le}
use Rattle.jl_model.specs.declared.ty.Ty.{Ty}
use Rattle.jl_model.specs.Order.{term_cmp}
use Rattle.jl_model.proofs.OrderLemmas.{term_order, tied, not_less}
use Rattle.jl_methods.proofs.FilterLemmas.{here}
use Rattle.jl_ambig.specs.Asked.{IsThere, IsPlaceFor}
use Rattle.jl_ambig.specs.Probes.{AreFirst}
use Rattle.jl_ambig.proofs.Members.{empty, in_take, in_drop, in_part, put_new, put_old, put_was}
use Rattle.jl_ambig.proofs.Sorted.{Rises, to_rises, from_rises, rises_take, rises_cut, sorted_put}

past : (n : ℕ) (xs : List Ty) (u : Ty) → Contains (drop n xs) u → n < length xs
past zero [] u c = absurd (empty u c)
past zero (x ∷ xs) u c = omega arith
past (suc n) [] u c = absurd (empty u c)
past (suc n) (x ∷ xs) u c = let l = past n xs u c in omega (arith, l)

some : (n : ℕ) (xs : List Ty) → n < length xs → (w : Ty) × Contains (drop n xs) w
some n [] l = absurd (omega (arith, l))
some zero (x ∷ xs) l = (x, here x x xs refl)
some (suc n) (x ∷ xs) l = some n xs (omega (arith, l))

-- nothing is there yet
pub none_first : (types : List Ty) → types ≡ [] → AreFirst [] types
none_first types e = subst (AreFirst []) (sym e) (record {
  rises = from_rises term_cmp [] tt;
  few = omega arith;
  each = λ t c. c;
  first = λ t c. absurd (empty t c);
})

module _ (all old : List Ty) (t : Ty) (h : AreFirst all old) where
  abbrev More : List Ty
  More = all ++ t ∷ []

  -- it is there
  pub add_there : IsThere term_cmp t old → AreFirst More old
  add_there (y, c, e) = record { rises = h.rises; few = h.few; each = λ u k. Contains-append_left all (t ∷ []) u (h.each u k); first = λ u k. by u (Contains-push_cases all t u k) }
    where
      by : (u : Ty) → Contains all u ⊎ (t ≡ u) → Contains old u ⊎ ((length old ≡ 32) × ((v : Ty) → Contains old v → term_cmp v u ≡ Less))
      by u (inl k) = h.first u k
      by u (inr q) = inl (subst (Contains old) (tied y t e ∙ q) c)

  -- it is put at its place, and what is past the first ones goes
  module _ (i : ℕ) (p : IsPlaceFor term_cmp t old i) where
    abbrev put : List Ty
    put = take i old ++ t ∷ drop i old

    abbrev new : List Ty
    new = take 32 put

    long : length put ≡ length old + 1
    long =
        let a = length-append (take i old) (t ∷ drop i old) in
        let b = length-append (take i old) (drop i old) in
        let c = ap length (take-append-drop i old) in
        omega (arith, a, b, c)

    ordered : Rises term_cmp put
    ordered = to_rises term_cmp put (sorted_put term_cmp i old t h.rises p)

    -- what is put out comes after all that stay
    out : (u : Ty) → Contains (drop 32 put) u → (length new ≡ 32) × ((v : Ty) → Contains new v → term_cmp v u ≡ Less)
    out u c = let l = past 32 put u c in (length-take-le 32 put (omega (arith, l)), λ v k. rises_cut term_cmp 32 put ordered v u k c)

    stays : (u : Ty) → Contains put u → Contains new u ⊎ ((length new ≡ 32) × ((v : Ty) → Contains new v → term_cmp v u ≡ Less))
    stays u c = by (in_part 32 put u c)
      where
        by : Contains new u ⊎ Contains (drop 32 put) u → Contains new u ⊎ ((length new ≡ 32) × ((v : Ty) → Contains new v → term_cmp v u ≡ Less))
        by (inl k) = inl k
        by (inr k) = inr (out u k)

    -- what comes after all that were there comes after all that are there
    beyond : (u : Ty) → length old ≡ 32 → ((v : Ty) → Contains old v → term_cmp v u ≡ Less) → (length new ≡ 32) × ((v : Ty) → Contains new v → term_cmp v u ≡ Less)
    beyond u e low = by_last (some 32 put (omega (arith, long, e)))
      where
        by_last : (w : Ty) × Contains (drop 32 put) w → (length new ≡ 32) × ((v : Ty) → Contains new v → term_cmp v u ≡ Less)
        by_last (w, c) = ((out w c).0, λ v k. by v k (put_was i old t v (in_take 32 put v k)))
          where
            last : (v : Ty) → Contains new v → t ≡ v → Contains old w ⊎ (t ≡ w) → term_cmp v u ≡ Less
            last v k q (inl m) = term_order.trans v w u ((out w c).1 v k) (low w m)
            last v k q (inr r) = absurd (not_less v (subst (λ z. term_cmp v z ≡ Less) (sym r ∙ q) ((out w c).1 v k)))

            by : (v : Ty) → Contains new v → Contains old v ⊎ (t ≡ v) → term_cmp v u ≡ Less
            by v k (inl m) = low v m
            by v k (inr q) = last v k q (put_was i old t w (in_drop 32 put w c))

    pub add_put : (types : List Ty) → types ≡ new → AreFirst More types
    add_put types q = subst (AreFirst More) (sym q) (record {
      rises = from_rises term_cmp new (rises_take term_cmp 32 put ordered);
      few = short;
      each = λ u c. from u (put_was i old t u (in_take 32 put u c));
      first = λ u c. by u (Contains-push_cases all t u c);
    })
      where
        short : length new ≤ 32
        short = let e = length-take 32 put in omega (arith, e)

        from : (u : Ty) → Contains old u ⊎ (t ≡ u) → Contains More u
        from u (inl c) = Contains-append_left all (t ∷ []) u (h.each u c)
        from u (inr e) = subst (Contains More) e (Contains-push all t)

        was : (u : Ty) → Contains old u ⊎ ((length old ≡ 32) × ((v : Ty) → Contains old v → term_cmp v u ≡ Less)) → Contains new u ⊎ ((length new ≡ 32) × ((v : Ty) → Contains new v → term_cmp v u ≡ Less))
        was u (inl c) = stays u (put_old i old t u c)
        was u (inr b) = inr (beyond u b.0 b.1)

        by : (u : Ty) → Contains all u ⊎ (t ≡ u) → Contains new u ⊎ ((length new ≡ 32) × ((v : Ty) → Contains new v → term_cmp v u ≡ Less))
        by u (inl c) = was u (h.first u c)
        by u (inr e) = subst (λ z. Contains new z ⊎ ((length new ≡ 32) × ((v : Ty) → Contains new v → term_cmp v z ≡ Less))) e (stays t (put_new i old t))
