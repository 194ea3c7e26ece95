-- A search walks rows of its key, and where a row covers its world that row tells the choice.
use Rattle.std.proofs.Common.{◌≡◌, ◌∙◌, ap, sym, subst, refl, ℕ, zero, suc, ◌≤◌, ◌⊎◌, inl, inr, arith, Bool, true, false, ◌&&◌, ◌||◌, nat_eq, nat_le, List, [], ◌∷◌, take, slice_get, Option, Some}
use Rattle.std.specs.List.{Contains}
use Rattle.jl_model.specs.declared.ty.Key.{Key}
use Rattle.jl_program.specs.Prelude.{prelude_count}
use Rattle.jl_program.specs.declared.tree.Program.{Program}
use Rattle.jl_program.specs.Valid.{IsValid}
use Rattle.jl_calculus.specs.declared.history.Event.{Event}
use Rattle.jl_calculus.specs.Core.{at_row, go_to, is_reached}
use Rattle.jl_calculus.specs.Legal.{IsKeyOf}
use Rattle.jl_calculus.specs.Ranges.{CacheRow, keys_of, rows_of, Covers, HasNoEnd, MayBegin, SelectsSite}
use Rattle.jl_calculus.specs.Words.{one_past, after_last, link_of, IsLastWorld, IsRowWords}
use Rattle.jl_calculus.specs.World.{world_of}
use Rattle.jl_calculus.proofs.BetweenLemmas.{row_tells}
use Rattle.jl_core.proofs.EventLemmas.{contains_at}
use Rattle.jl_core.proofs.Sound.{IsKeptRow, StandsWell}

-- ---- the last that meets a test

record IsLastOf {X : Type 0} (test : X → Bool) (xs : List X) (r : ℕ) : Type 0 where
  at : X
  stands : slice_get xs r ≡ Some at
  meets : test at ≡ true

last_step : {X : Type 0} (test : X → Bool) (x : X) (xs : List X) (n : ℕ) (b : Bool) (r : ℕ) → after_last test xs ≡ n → test x ≡ b → one_past n b ≡ suc r
    → ((k : ℕ) → after_last test xs ≡ suc k → IsLastOf test xs k) → IsLastOf test (x ∷ xs) r
last_step test x xs zero false r e t h f = absurd (omega (arith, h))
last_step test x xs zero true zero e t h f = record { at = x; stands = refl; meets = t }
last_step test x xs zero true (suc r) e t h f = absurd (omega (arith, h))
last_step test x xs (suc n) b r e t h f =
    let k = f n e in
    let same : suc n ≡ r = omega (arith, h) in
    subst (IsLastOf test (x ∷ xs)) same (record { at = k.at; stands = k.stands; meets = k.meets })

last_is : {X : Type 0} (test : X → Bool) (xs : List X) (r : ℕ) → after_last test xs ≡ suc r → IsLastOf test xs r
last_is test [] r h = absurd (omega (arith, h))
last_is test (x ∷ xs) r h = last_step test x xs (after_last test xs) (test x) r refl refl h (last_is test xs)

-- a link leads to a row of its key
pub linked : (number : ℕ) (rows : List CacheRow) (r : ℕ) → link_of number rows ≡ suc r → (row : CacheRow) × (slice_get rows r ≡ Some row) × (row.key ≡ number)
linked number rows r h =
    let k = last_is (λ (row : CacheRow). nat_eq row.key number) rows r h in
    (k.at, k.stands, grind (arith, k.meets))

get_taken : {X : Type 0} (n : ℕ) (xs : List X) (k : ℕ) (x : X) → slice_get (take n xs) k ≡ Some x → slice_get xs k ≡ Some x
get_taken zero xs k x h = cc
get_taken (suc n) [] k x h = cc
get_taken (suc n) (y ∷ xs) zero x h = h
get_taken (suc n) (y ∷ xs) (suc k) x h = get_taken n xs k x h

-- ---- where a search goes

module _ (P : Program) (es : List Event) where
  pub goes_well : (number : ℕ) (key : Key) (w n link : ℕ) → link_of number (take n (rows_of es)) ≡ link → StandsWell P es number key w (go_to link)
  goes_well number key w n zero e = tt
  goes_well number key w n (suc r) e = (let (row, at, of) = linked number (take n (rows_of es)) r e in (row, get_taken n (rows_of es) r row at, of))

  pub begins_well : (number : ℕ) (key : Key) (w link : ℕ) → link_of number (rows_of es) ≡ link → StandsWell P es number key w (go_to link)
  begins_well number key w zero e = tt
  begins_well number key w (suc r) e = linked number (rows_of es) r e

  -- ---- a row that covers the world

  first_low : (key : Key) (first : ℕ) → MayBegin P es key first → prelude_count ≤ first
  first_low key first (inl e) = omega (arith, e)
  first_low key first (inr (low, t)) = omega (arith, low)

  pub reached_parts : (first last w : ℕ) → is_reached first last w ≡ true → (first ≤ w) × ((last ≡ 0) ⊎ (w ≤ last))
  reached_parts first last w h = by (nat_le first w) refl (nat_eq last 0) refl (nat_le w last) refl h
    where
      by : (a : Bool) → nat_le first w ≡ a → (b : Bool) → nat_eq last 0 ≡ b → (c : Bool) → nat_le w last ≡ c → (a && (b || c)) ≡ true → (first ≤ w) × ((last ≡ 0) ⊎ (w ≤ last))
      by true p true q c r k = (grind (arith, p), inl (grind (arith, q)))
      by true p false q true r k = (grind (arith, p), inr (grind (arith, r)))
      by true p false q false r k = cc
      by false p b q c r k = cc

  shorter : (key : Key) (first last w : ℕ) → Covers P es key first last → first ≤ w → w ≤ last → Covers P es key first w
  shorter key first last w h l m = record { begun = l; going = λ d a b. h.going d a (omega (arith, b, m)) }

  endless : (key : Key) (first w : ℕ) → HasNoEnd P es key first → first ≤ w → Covers P es key first w
  endless key first w h l = record { begun = l; going = λ d a b. h d a }

  pub covers_by : (key : Key) (first last w : ℕ) → prelude_count ≤ first → first ≤ w → (last ≡ 0) ⊎ (w ≤ last) → IsLastWorld P es key first last → Covers P es key first w
  covers_by key first last w low l k (inl (e, n)) = endless key first w n l
  covers_by key first last w low l (inl e) (inr h) = absurd (omega (arith, low, h.covers.begun, e))
  covers_by key first last w low l (inr m) (inr h) = shorter key first last w h.covers l m

  same_row : (o : Option CacheRow) (a b : CacheRow) → o ≡ Some a → o ≡ Some b → a ≡ b
  same_row o a b h k = cc

  same_key : (o : Option Key) (a b : Key) → o ≡ Some a → o ≡ Some b → a ≡ b
  same_key o a b h k = cc

  -- what the words of a row tell of a world that is there, where no row was cut that has an end
  pub hit : IsValid P → ((key : Key) → Contains (keys_of es) key → IsKeyOf P key) → ((row : CacheRow) → Contains (rows_of es) row → IsKeptRow P es row) → (cut : List ℕ) (cut_key : (r : ℕ) (row : CacheRow) (key : Key) → Contains cut r → slice_get (rows_of es) r ≡ Some row → slice_get (keys_of es) row.key ≡ Some key → HasNoEnd P es key row.first)
      → (number : ℕ) (key : Key) (w r site first last next : ℕ) → slice_get (keys_of es) number ≡ Some key → StandsWell P es number key w (at_row r)
      → IsRowWords P es cut r site first last next → is_reached first last w ≡ true → SelectsSite P es key w site
  hit valid proper rows cut cut_key number key w r site first last next named (row, at, of) words reached =
      let kept = rows words.row (contains_at (rows_of es) r words.row words.stands) in
      let parts = reached_parts first last w reached in
      let one : row ≡ words.row = same_row (slice_get (rows_of es) r) row words.row at words.stands in
      let numbers : words.row.key ≡ number = sym (ap (λ (x : CacheRow). x.key) one) ∙ of in
      let kept_key : kept.key ≡ key = same_key (slice_get (keys_of es) number) kept.key key (ap (slice_get (keys_of es)) (sym numbers) ∙ kept.named) named in
      let words_key : words.key ≡ kept.key = same_key (slice_get (keys_of es) words.row.key) words.key kept.key words.named kept.named in
      let begins : words.row.first ≤ w = omega (arith, parts.0, words.first_word) in
      let low = first_low kept.key words.row.first kept.right.begun in
      let covers : Covers P es kept.key words.row.first w = by kept.key words.row.first low begins parts.1 (subst (λ (k : Key). (Contains cut r × (last ≡ world_of es)) ⊎ ((Contains cut r → ⊥) × IsLastWorld P es k words.row.first last)) words_key words.last_word)
      (λ c. cut_key r words.row kept.key c words.stands kept.named) in
      subst (λ (k : Key). SelectsSite P es k w site) kept_key
      (subst (λ (n : ℕ). SelectsSite P es kept.key w n) (sym words.site_word) (row_tells P valid es kept.key words.row.site words.row.first w (proper kept.key (contains_at (keys_of es) words.row.key kept.key kept.named)) kept.right covers))
    where
      by : (k : Key) (from : ℕ) → prelude_count ≤ from → from ≤ w → (last ≡ 0) ⊎ (w ≤ last) → (Contains cut r × (last ≡ world_of es)) ⊎ ((Contains cut r → ⊥) × IsLastWorld P es k from last)
          → (Contains cut r → HasNoEnd P es k from) → Covers P es k from w
      by k from low l q (inl (c, e)) f = endless k from w (f c) l
      by k from low l q (inr (d, e)) f = covers_by k from last w low l q e
