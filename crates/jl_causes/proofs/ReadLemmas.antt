-- The steps of the loops that read a text.
use Rattle.std.proofs.Common.{◌≡◌, ◌∙◌, sym, refl, ap, ℕ, zero, suc, ◌+◌, ◌-◌, ◌<◌, ◌≤◌, arith, Bool, true, false, ◌&&◌, cond, List, [], ◌∷◌, ◌++◌, length, take, drop, get_or, slice_get, bytes_eq, option_map, append_assoc, append-nil, Option, None, Some}
use Rattle.std.proofs.lemmas.List.{take_more, drop_more, drop_all, take_all}
use Rattle.std.proofs.lemmas.Slice.Eq.{bytes_eq-Decides}
use Rattle.std.proofs.lemmas.Option.{slice_get_within, get_or_from_slice_get, slice_get-map}
use Rattle.std.specs.Borrow.{Bor}
use Rattle.jl_model.specs.declared.ty.Decl.{Decl}
use Rattle.jl_model.specs.declared.ty.Ty.{Ty}
use Rattle.jl_causes.specs.KeyTexts.{◌>>=◌, closing, comma, is_mark, begins, word_at, names_of, after, place_of, more, type_at, types_at, parts_at, AreReadTo}

-- ---- a name

-- with this in front of the name
abbrev pub front : List ℕ → List ℕ × List ℕ → List ℕ × List ℕ
front a w = (a ++ w.0, w.1)

word_of : (c : ℕ) (cs : List ℕ) (b : Bool) → is_mark c ≡ b → word_at (c ∷ cs) ≡ cond b ([], c ∷ cs) (c ∷ (word_at cs).0, (word_at cs).1)
word_of c cs b e = ap (λ z. cond z ([], c ∷ cs) (c ∷ (word_at cs).0, (word_at cs).1)) e

-- a byte of the name
pub word_next : (t : List ℕ) (i c : ℕ) → i < length t → get_or t i 0 ≡ c → is_mark c ≡ false → front (take i t) (word_at (drop i t)) ≡ word_at t → front (take (i + 1) t) (word_at (drop (i + 1) t)) ≡ word_at t
word_next t i c l is h so_far =
    let cut : drop i t ≡ c ∷ drop (i + 1) t = drop_more t i 0 l ∙ ap (λ z. z ∷ drop (i + 1) t) is in
    let word : word_at (drop i t) ≡ (c ∷ (word_at (drop (i + 1) t)).0, (word_at (drop (i + 1) t)).1) = ap word_at cut ∙ word_of c (drop (i + 1) t) false h in
    let taken : take (i + 1) t ≡ take i t ++ c ∷ [] = take_more t i 0 l ∙ ap (λ z. take i t ++ z ∷ []) is in
    ap (λ z. front z (word_at (drop (i + 1) t))) taken ∙ ap (λ z. (z, (word_at (drop (i + 1) t)).1)) (append_assoc (take i t) (c ∷ []) (word_at (drop (i + 1) t)).0)
    ∙ sym (ap (front (take i t)) word) ∙ so_far

-- the mark after the name
pub word_ends : (t : List ℕ) (i c : ℕ) → i < length t → get_or t i 0 ≡ c → is_mark c ≡ true → front (take i t) (word_at (drop i t)) ≡ word_at t → (take i t, drop i t) ≡ word_at t
word_ends t i c l is h so_far =
    let cut : drop i t ≡ c ∷ drop (i + 1) t = drop_more t i 0 l ∙ ap (λ z. z ∷ drop (i + 1) t) is in
    let word : word_at (drop i t) ≡ ([], drop i t) = ap word_at cut ∙ word_of c (drop (i + 1) t) true h ∙ ap (λ z. ([], z)) (sym cut) in
    ap (λ z. (z, drop i t)) (sym (append-nil (take i t))) ∙ sym (ap (front (take i t)) word) ∙ so_far

-- a name without a mark after it
pub word_whole : (t : List ℕ) (i : ℕ) → length t ≤ i → front (take i t) (word_at (drop i t)) ≡ word_at t → (t, []) ≡ word_at t
word_whole t i l so_far =
    let none : drop i t ≡ [] = drop_all i t l in
    let all : take i t ≡ t = take_all i t l in
    ap (λ z. (z, [])) (sym (append-nil t)) ∙ sym (ap (λ z. front z (word_at [])) all) ∙ sym (ap (λ z. front (take i t) (word_at z)) none) ∙ so_far

-- ---- a name among others

-- other texts have other bytes
pub not_bytes : (a b : List ℕ) → (a ≡ b → ⊥) → bytes_eq a b ≡ false
not_bytes a b h = by (bytes_eq a b) refl
  where
    by : (t : Bool) → bytes_eq a b ≡ t → bytes_eq a b ≡ false
    by true e = absurd (h ((bytes_eq-Decides a b).0 e))
    by false e = e

-- a place, past so many
abbrev pub later : ℕ → Option ℕ → Option ℕ
later n None = None
later n (Some k) = Some (n + k)

pub later_none : (o : Option ℕ) → later 0 o ≡ o
later_none None = refl
later_none (Some k) = ap Some (omega arith)

later_more : (n : ℕ) (o : Option ℕ) → later n (after o) ≡ later (n + 1) o
later_more n None = refl
later_more n (Some k) = ap Some (omega arith)

module _ (names : List (List ℕ)) (n : ℕ) (m name : List ℕ) (there : slice_get names n ≡ Some m) (so_far : later n (place_of (drop n names) name) ≡ place_of names name) where
  cut_at : drop n names ≡ m ∷ drop (n + 1) names
  cut_at = drop_more names n m (slice_get_within names n m there) ∙ ap (λ z. z ∷ drop (n + 1) names) (get_or_from_slice_get names n m m there)

  place_by : (b : Bool) → bytes_eq name m ≡ b → place_of (drop n names) name ≡ cond b (Some 0) (after (place_of (drop (n + 1) names) name))
  place_by b e = ap (λ z. place_of z name) cut_at ∙ ap (λ z. cond z (Some 0) (after (place_of (drop (n + 1) names) name))) e

  -- the one that is sought
  pub place_here : m ≡ name → Some n ≡ place_of names name
  place_here e = ap Some (omega arith) ∙ ap (later n) (sym (place_by true ((bytes_eq-Decides name m).1 (sym e)))) ∙ so_far

  -- another
  pub place_next : (m ≡ name → ⊥) → later (n + 1) (place_of (drop (n + 1) names) name) ≡ place_of names name
  place_next other = sym (later_more n (place_of (drop (n + 1) names) name)) ∙ ap (later n) (sym (place_by false (not_bytes name m (λ e. other (sym e))))) ∙ so_far

-- none is
pub place_none : (names : List (List ℕ)) (n : ℕ) (name : List ℕ) → length names ≤ n → later n (place_of (drop n names) name) ≡ place_of names name → None ≡ place_of names name
place_none names n name l so_far = sym (ap (λ z. later n (place_of z name)) (drop_all n names l)) ∙ so_far

-- ---- the names of a table

pub named_at : (ds : List Decl) (n : ℕ) (d : Decl) → slice_get ds n ≡ Some d → slice_get (names_of ds) n ≡ Some d.name
named_at ds n d there = slice_get-map (λ (e : Decl). e.name) ds n ∙ ap (option_map (λ (e : Decl). e.name)) there

pub many_names : (ds : List Decl) → length (names_of ds) ≡ length ds
many_names [] = refl
many_names (d ∷ ds) = ap suc (many_names ds)

-- ---- types in braces

module _ (names : List (List ℕ)) where
  -- the types of one reading are its first type, and more
  pub types_one : (room : ℕ) (text r : List ℕ) (t : Ty) → 1 ≤ room → type_at names (types_at names (room - 1)) text ≡ Some (t, r) → types_at names room text ≡ more (types_at names (room - 1)) (t, r)
  types_one zero text r t l one = absurd (omega (arith, l))
  types_one (suc n) text r t l one =
      let same : n ≡ suc n - 1 = omega arith in
      ap (λ m. type_at names (types_at names m) text >>= λ p. more (types_at names m) p) same ∙ ap (λ o. o >>= λ p. more (types_at names (suc n - 1)) p) one

  pub parts_one : (many n : ℕ) (text r : List ℕ) (t : Ty) → 1 ≤ many → type_at names (types_at names n) text ≡ Some (t, r) → parts_at names many n text ≡ more (parts_at names (many - 1) n) (t, r)
  parts_one zero n text r t l one = absurd (omega (arith, l))
  parts_one (suc k) n text r t l one =
      let same : k ≡ suc k - 1 = omega arith in
      ap (λ m. type_at names (types_at names n) text >>= λ p. more (parts_at names m n) p) same ∙ ap (λ o. o >>= λ p. more (parts_at names (suc k - 1) n) p) one

module _ (next : List ℕ → Option (List Ty × List ℕ)) (all : Option (List Ty × List ℕ)) (r : List ℕ) (t : Ty) (before mid : List Ty) (after_one : all ≡ more next (t, r)) (grown : mid ≡ before ++ t ∷ []) where
  -- the last type
  pub parts_end : (end : List ℕ) → begins closing r ≡ true → end ≡ drop 1 r → (ts : List Ty) × (mid ≡ before ++ ts) × (all ≡ Some (ts, end))
  parts_end end b e =
      (t ∷ [], grown, after_one ∙ ap (λ z. cond z (Some (t ∷ [], drop 1 r)) (cond (begins comma r && begins 32 (drop 1 r)) (next (drop 2 r) >>= λ q. Some (t ∷ q.0, q.1)) None)) b ∙ ap (λ z. Some (t ∷ [], z)) (sym e))

  other : begins closing r ≡ false → all ≡ cond (begins comma r && begins 32 (drop 1 r)) (next (drop 2 r) >>= λ q. Some (t ∷ q.0, q.1)) None
  other b = after_one ∙ ap (λ z. cond z (Some (t ∷ [], drop 1 r)) (cond (begins comma r && begins 32 (drop 1 r)) (next (drop 2 r) >>= λ q. Some (t ∷ q.0, q.1)) None)) b

  drop_two : (xs : List ℕ) → drop 1 (drop 1 xs) ≡ drop 2 xs
  drop_two [] = refl
  drop_two (x ∷ xs) = refl

  -- a type before others
  pub parts_more : (r2 r3 : List ℕ) (now : List Ty) (found : Option (Bor (List ℕ))) → begins closing r ≡ false → begins comma r ≡ true → r2 ≡ drop 1 r → begins 32 r2 ≡ true → r3 ≡ drop 1 r2
      → AreReadTo (next r3) mid now found → AreReadTo all before now found
  parts_more r2 r3 now found b c e d f h = by found h
    where
      space : begins 32 (drop 1 r) ≡ true
      space = ap (begins 32) (sym e) ∙ d

      rest : r3 ≡ drop 2 r
      rest = f ∙ ap (drop 1) e ∙ drop_two r

      goes : all ≡ (next r3 >>= λ q. Some (t ∷ q.0, q.1))
      goes =
          other b ∙ ap (λ z. cond (z && begins 32 (drop 1 r)) (next (drop 2 r) >>= λ q. Some (t ∷ q.0, q.1)) None) c
          ∙ ap (λ z. cond z (next (drop 2 r) >>= λ q. Some (t ∷ q.0, q.1)) None) space ∙ ap (λ z. next z >>= λ q. Some (t ∷ q.0, q.1)) (sym rest)

      by : (o : Option (Bor (List ℕ))) → AreReadTo (next r3) mid now o → AreReadTo all before now o
      by None h = goes ∙ ap (λ z. z >>= λ q. Some (t ∷ q.0, q.1)) h
      by (Some end) (ts, m, q) = (t ∷ ts, m ∙ ap (λ z. z ++ ts) grown ∙ append_assoc before (t ∷ []) ts, goes ∙ ap (λ z. z >>= λ q. Some (t ∷ q.0, q.1)) q)
