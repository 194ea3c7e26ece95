-- The functions of a script: the prelude's, then each name that the script defines, once.
use Rattle.std.proofs.Common.{◌≡◌, ◌∙◌, ap, sym, refl, ℕ, zero, suc, ◌≤◌, arith, Bool, true, false, cond, ◌&&◌, ◌||◌, ◌==◌, not, All, List, [], ◌∷◌, ◌++◌, length, take, drop, append-nil, append_assoc, length-append, true≢false, eqb-true, eq-eqb}
use Rattle.std.specs.List.{list_all}
use Rattle.std.proofs.Math.Seq.{take-append_seam, drop-append_seam}
use Rattle.jl_program.specs.Names.{same_text, is_among, are_distinct, is_free_name}
use Rattle.jl_program.specs.Prelude.{prelude_functions}
use Rattle.jl_grammar.specs.declared.tree.Name.{Name}
use Rattle.jl_resolve_forms.specs.Defined.{with_names, functions_of}
use Rattle.jl_valid.specs.Adds.{Every, IsFree}
use Rattle.jl_valid.proofs.AddsLemmas.{and, left, right}

-- a member of a list, by its place
pub all_of : {X : Type 0} (Is : X → Type 0) (xs : List X) → Every Is xs → All Is xs
all_of Is [] h i d l = absurd (omega (arith, l))
all_of Is (x ∷ xs) h zero d l = h.0
all_of Is (x ∷ xs) h (suc i) d l = all_of Is xs h.1 i d (omega (arith, l))

-- names that are added are new, distinct and free
pub record Added (known all : List (List ℕ)) : Type 0 where
  pub fresh : List (List ℕ)
  pub is : all ≡ known ++ fresh
  pub distinct : are_distinct known ≡ true → are_distinct all ≡ true
  pub free : list_all is_free_name fresh ≡ true

same_number : (a b : ℕ) → (a == b) ≡ (b == a)
same_number a b = by (a == b) (b == a) (λ e. eq-eqb b a (sym (eqb-true a b e))) (λ e. eq-eqb a b (sym (eqb-true b a e)))
  where
    by : (x y : Bool) → (x ≡ true → y ≡ true) → (y ≡ true → x ≡ true) → x ≡ y
    by true y f g = sym (f refl)
    by false true f g = g refl
    by false false f g = refl

same_back : (a b : List ℕ) → same_text a b ≡ same_text b a
same_back [] [] = refl
same_back [] (y ∷ b) = refl
same_back (x ∷ a) [] = refl
same_back (x ∷ a) (y ∷ b) = ap (λ z. z && same_text a b) (same_number x y) ∙ ap (λ z. (y == x) && z) (same_back a b)

neither : (a b : Bool) → not a ≡ true → b ≡ false → not (a || b) ≡ true
neither true b p q = cc
neither false b p q = ap not q

none_first : (a b : Bool) → (a || b) ≡ false → a ≡ false
none_first true b e = e
none_first false b e = refl

none_rest : (a b : Bool) → (a || b) ≡ false → b ≡ false
none_rest true b e = absurd (true≢false e)
none_rest false b e = e

among_behind : (x n : List ℕ) (xs : List (List ℕ)) → is_among x (xs ++ n ∷ []) ≡ (is_among x xs || same_text x n)
among_behind x n [] = last (same_text x n)
  where
    last : (b : Bool) → (b || false) ≡ b
    last true = refl
    last false = refl
among_behind x n (y ∷ xs) = ap (λ z. same_text x y || z) (among_behind x n xs) ∙ joined (same_text x y) (is_among x xs) (same_text x n)
  where
    joined : (a b c : Bool) → (a || (b || c)) ≡ ((a || b) || c)
    joined true b c = refl
    joined false b c = refl

distinct_behind : (xs : List (List ℕ)) (n : List ℕ) → are_distinct xs ≡ true → is_among n xs ≡ false → are_distinct (xs ++ n ∷ []) ≡ true
distinct_behind [] n p q = refl
distinct_behind (x ∷ xs) n p q =
    let old = left (not (is_among x xs)) (are_distinct xs) p in
    let other = same_back x n ∙ none_first (same_text n x) (is_among n xs) q in
    and (not (is_among x (xs ++ n ∷ []))) (are_distinct (xs ++ n ∷ [])) (ap not (among_behind x n xs) ∙ neither (is_among x xs) (same_text x n) old other)
    (distinct_behind xs n (right (not (is_among x xs)) (are_distinct xs) p) (none_rest (same_text n x) (is_among n xs) q))

pub adds_names : (known : List (List ℕ)) (ns : List Name) → Every IsFree ns → Added known (with_names known ns)
adds_names known [] h = record { fresh = []; is = sym (append-nil known); distinct = λ e. e; free = refl }
adds_names known (n ∷ ns) h = by (is_among n.bytes known) refl (λ now. adds_names now ns h.1)
  where
    by : (b : Bool) → is_among n.bytes known ≡ b → ((now : List (List ℕ)) → Added now (with_names now ns)) → Added known (with_names (cond b known (known ++ n.bytes ∷ [])) ns)
    by true is rest = rest known
    by false is rest =
        let r = rest (known ++ n.bytes ∷ []) in
        record {
          fresh = n.bytes ∷ r.fresh;
          is = r.is ∙ append_assoc known (n.bytes ∷ []) r.fresh;
          distinct = λ e. r.distinct (distinct_behind known n.bytes e is);
          free = and (is_free_name n.bytes) (list_all is_free_name r.fresh) h.0 r.free;
        }

pub functions_begin : (ns : List Name) (fresh : List (List ℕ)) → functions_of ns ≡ prelude_functions ++ fresh → take (length prelude_functions) (functions_of ns) ≡ prelude_functions
functions_begin ns fresh e = ap (take (length prelude_functions)) e ∙ take-append_seam prelude_functions fresh

pub functions_end : (ns : List Name) (fresh : List (List ℕ)) → functions_of ns ≡ prelude_functions ++ fresh → drop (length prelude_functions) (functions_of ns) ≡ fresh
functions_end ns fresh e = ap (drop (length prelude_functions)) e ∙ drop-append_seam prelude_functions fresh

-- without a free name, the names so far are those that are known
pub begins_known : (known : List (List ℕ)) (ns : List Name) → length known ≤ length (with_names known ns)
begins_known known [] = omega arith
begins_known known (n ∷ ns) = by (is_among n.bytes known) (λ now. begins_known now ns)
  where
    by : (b : Bool) → ((now : List (List ℕ)) → length now ≤ length (with_names now ns)) → length known ≤ length (with_names (cond b known (known ++ n.bytes ∷ [])) ns)
    by true rest = rest known
    by false rest = omega (arith, rest (known ++ n.bytes ∷ []), length-append known (n.bytes ∷ []))

-- and they begin with those
pub begins_with : (known : List (List ℕ)) (ns : List Name) → (fresh : List (List ℕ)) × (with_names known ns ≡ known ++ fresh)
begins_with known [] = ([], sym (append-nil known))
begins_with known (n ∷ ns) = by (is_among n.bytes known) (λ now. begins_with now ns)
  where
    by : (b : Bool) → ((now : List (List ℕ)) → (fresh : List (List ℕ)) × (with_names now ns ≡ now ++ fresh)) → (fresh : List (List ℕ)) × (with_names (cond b known (known ++ n.bytes ∷ [])) ns ≡ known ++ fresh)
    by true rest = rest known
    by false rest = let r = rest (known ++ n.bytes ∷ []) in (n.bytes ∷ r.0, r.1 ∙ append_assoc known (n.bytes ∷ []) r.0)
