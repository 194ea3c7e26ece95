-- A walk that remembers the last place at which a test holds.
use Rattle.std.proofs.Common.{◌≡◌, ◌∙◌, ap, sym, refl, ℕ, zero, suc, ◌+◌, ◌<◌, ◌≤◌, arith, Bool, true, false, nat_eq, List, [], ◌∷◌, map, length, get_or, drop}
use Rattle.std.proofs.lemmas.List.{at_drop_more, at_drop_all}
use Rattle.jl_calculus.specs.Words.{one_past, after_last, link_of}
use Rattle.jl_core.specs.declared.words.Words.{Words}
use Rattle.jl_core.specs.View.{row_of}

-- the last place after so many elements, where the rest has its own last place or none
abbrev pub then_last : ℕ → ℕ → ℕ → ℕ
then_last count i zero = count
then_last count i (suc n) = i + suc n

pub begin_last : (n : ℕ) → then_last 0 0 n ≡ n
begin_last zero = refl
begin_last (suc n) = omega arith

pub next_last : (count i n : ℕ) → then_last count i (one_past n true) ≡ then_last (i + 1) (i + 1) n
next_last count i zero = refl
next_last count i (suc n) = omega arith

pub skip_last : (count i n : ℕ) → then_last count i (one_past n false) ≡ then_last count (i + 1) n
skip_last count i zero = refl
skip_last count i (suc n) = omega arith

-- the element at i meets the test, or does not
pub meets_last : {X : Type 0} (test : X → Bool) (xs : List X) (i : ℕ) (x : X) (count : ℕ) → i < length xs → x ≡ get_or xs i x → test x ≡ true
    → then_last count i (after_last test (drop i xs)) ≡ then_last (i + 1) (i + 1) (after_last test (drop (i + 1) xs))
meets_last test xs i x count l e t =
    ap (then_last count i) (at_drop_more (after_last test) xs i x l)
    ∙ ap (λ (b : Bool). then_last count i (one_past (after_last test (drop (i + 1) xs)) b)) (ap test (sym e) ∙ t)
    ∙ next_last count i (after_last test (drop (i + 1) xs))

pub misses_last : {X : Type 0} (test : X → Bool) (xs : List X) (i : ℕ) (x : X) (count : ℕ) → i < length xs → x ≡ get_or xs i x → test x ≡ false
    → then_last count i (after_last test (drop i xs)) ≡ then_last count (i + 1) (after_last test (drop (i + 1) xs))
misses_last test xs i x count l e t =
    ap (then_last count i) (at_drop_more (after_last test) xs i x l)
    ∙ ap (λ (b : Bool). then_last count i (one_past (after_last test (drop (i + 1) xs)) b)) (ap test (sym e) ∙ t)
    ∙ skip_last count i (after_last test (drop (i + 1) xs))

pub ends_last : {X : Type 0} (test : X → Bool) (xs : List X) (i count : ℕ) → length xs ≤ i → then_last count i (after_last test (drop i xs)) ≡ count
ends_last test xs i count l = ap (then_last count i) (at_drop_all (after_last test) xs i l)

-- the rows that words tell
link_test : (key : ℕ) (ws : List Words) → link_of key (map row_of ws) ≡ after_last (λ (w : Words). nat_eq w.key key) ws
link_test key [] = refl
link_test key (w ∷ ws) = ap (λ n. one_past n (nat_eq w.key key)) (link_test key ws)

pub meets_link : (key : ℕ) (ws : List Words) (i : ℕ) (w : Words) (count : ℕ) → i < length ws → w ≡ get_or ws i w → w.key ≡ key
    → then_last count i (link_of key (map row_of (drop i ws))) ≡ then_last (i + 1) (i + 1) (link_of key (map row_of (drop (i + 1) ws)))
meets_link key ws i w count l e t =
    ap (then_last count i) (link_test key (drop i ws))
    ∙ meets_last (λ (x : Words). nat_eq x.key key) ws i w count l e (let q : nat_eq w.key key ≡ true = grind (arith, t) in q)
    ∙ ap (then_last (i + 1) (i + 1)) (sym (link_test key (drop (i + 1) ws)))

pub misses_link : (key : ℕ) (ws : List Words) (i : ℕ) (w : Words) (count : ℕ) → i < length ws → w ≡ get_or ws i w → (w.key ≡ key → ⊥)
    → then_last count i (link_of key (map row_of (drop i ws))) ≡ then_last count (i + 1) (link_of key (map row_of (drop (i + 1) ws)))
misses_link key ws i w count l e t =
    ap (then_last count i) (link_test key (drop i ws))
    ∙ misses_last (λ (x : Words). nat_eq x.key key) ws i w count l e (let q : nat_eq w.key key ≡ false = grind (arith, t) in q)
    ∙ ap (then_last count (i + 1)) (sym (link_test key (drop (i + 1) ws)))

pub ends_link : (key : ℕ) (ws : List Words) (i count : ℕ) → length ws ≤ i → then_last count i (link_of key (map row_of (drop i ws))) ≡ count
ends_link key ws i count l = ap (then_last count i) (at_drop_all (λ (xs : List Words). link_of key (map row_of xs)) ws i l)
