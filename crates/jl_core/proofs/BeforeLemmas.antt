-- One number stands before another in a list, and stays so where a number is inserted.
use Rattle.std.proofs.Common.{◌≡◌, ◌∙◌, ap, sym, subst, refl, ℕ, suc, ◌+◌, arith, Bool, true, false, cond, nat_eq, List, [], ◌∷◌, ◌++◌}
use Rattle.std.specs.List.{Contains}
use Rattle.jl_program.specs.Gathered.{times}

-- y stands in a list before the first x, if x stands there at all
abbrev pub before : ℕ → ℕ → List ℕ → Bool
before y x [] = true
before y x (z ∷ zs) = cond (nat_eq z x) false (cond (nat_eq z y) true (before y x zs))

-- c stands before each p
abbrev pub insert : ℕ → ℕ → List ℕ → List ℕ
insert p c [] = []
insert p c (z ∷ zs) = cond (nat_eq z p) (c ∷ z ∷ insert p c zs) (z ∷ insert p c zs)

-- ---- one element

or_true : (b r : Bool) → r ≡ true → cond b true r ≡ true
or_true true r h = refl
or_true false r h = h

trans_step : (a b c r s t : Bool) → cond b false (cond c true r) ≡ true → cond a false (cond b true s) ≡ true → (r ≡ true → s ≡ true → t ≡ true) → cond a false (cond c true t) ≡ true
trans_step true b c r s t h k f = k
trans_step false true c r s t h k f = cc
trans_step false false true r s t h k f = refl
trans_step false false false r s t h k f = f h k

same_step : (a b r t : Bool) → cond a false (cond b true r) ≡ true → (r ≡ true → t ≡ true) → cond a false (cond b true t) ≡ true
same_step true b r t h f = h
same_step false true r t h f = refl
same_step false false r t h f = f h

child_step : (a b c r t : Bool) → a ≡ false → cond b false (cond c true r) ≡ true → (r ≡ true → t ≡ true) → cond a false (cond c true t) ≡ true
child_step true b c r t e h f = cc
child_step false true c r t e h f = cc
child_step false false true r t e h f = refl
child_step false false false r t e h f = f h

not_front : (a r : Bool) → cond a false r ≡ true → a ≡ false
not_front true r h = cc
not_front false r h = refl

same_true : (x : ℕ) → nat_eq x x ≡ true
same_true x = grind arith

-- ---- lists

pub before_trans : (y u x : ℕ) (zs : List ℕ) → before y u zs ≡ true → before u x zs ≡ true → before y x zs ≡ true
before_trans y u x [] h k = refl
before_trans y u x (z ∷ zs) h k = trans_step (nat_eq z x) (nat_eq z u) (nat_eq z y) (before y u zs) (before u x zs) (before y x zs) h k (before_trans y u x zs)

pub before_insert : (p c y x : ℕ) → nat_eq c x ≡ false → (zs : List ℕ) → before y x zs ≡ true → before y x (insert p c zs) ≡ true
before_insert p c y x d [] h = refl
before_insert p c y x d (z ∷ zs) h = by (nat_eq z p) (same_step (nat_eq z x) (nat_eq z y) (before y x zs) (before y x (insert p c zs)) h (before_insert p c y x d zs))
  where
    by : (q : Bool) → before y x (z ∷ insert p c zs) ≡ true → before y x (cond q (c ∷ z ∷ insert p c zs) (z ∷ insert p c zs)) ≡ true
    by true k = subst (λ (b : Bool). cond b false (cond (nat_eq c y) true (before y x (z ∷ insert p c zs))) ≡ true) (sym d) (or_true (nat_eq c y) (before y x (z ∷ insert p c zs)) k)
    by false k = k

-- what stood before p stands before the new number, which stood nowhere
pub before_new : (p c y : ℕ) (zs : List ℕ) → times c zs ≡ 0 → before y p zs ≡ true → before y c (insert p c zs) ≡ true
before_new p c y [] n h = refl
before_new p c y (z ∷ zs) n h =
    let apart : nat_eq z p ≡ false = not_front (nat_eq z p) (cond (nat_eq z y) true (before y p zs)) h in
    let other = none_here (nat_eq c z) refl (times c zs) n in
    subst (λ (q : Bool). before y c (cond q (c ∷ z ∷ insert p c zs) (z ∷ insert p c zs)) ≡ true) (sym apart)
    (child_step (nat_eq z c) (nat_eq z p) (nat_eq z y) (before y p zs) (before y c (insert p c zs)) other.0 h (before_new p c y zs other.1))
  where
    none_here : (b : Bool) → nat_eq c z ≡ b → (k : ℕ) → cond b (1 + k) k ≡ 0 → (nat_eq z c ≡ false) × (k ≡ 0)
    none_here true q k e = absurd (omega (arith, e))
    none_here false q k e = (grind (arith, q), e)

-- and the new number stands before p
pub new_before : (p c : ℕ) → nat_eq c p ≡ false → (zs : List ℕ) → before c p (insert p c zs) ≡ true
new_before p c d [] = refl
new_before p c d (z ∷ zs) = by (nat_eq z p) refl (new_before p c d zs)
  where
    by : (q : Bool) → nat_eq z p ≡ q → before c p (insert p c zs) ≡ true → before c p (cond q (c ∷ z ∷ insert p c zs) (z ∷ insert p c zs)) ≡ true
    by true q k =
        subst (λ (b : Bool). cond b false (cond (nat_eq c c) true (before c p (z ∷ insert p c zs))) ≡ true) (sym d)
        (subst (λ (b : Bool). cond b true (before c p (z ∷ insert p c zs)) ≡ true) (sym (same_true c)) refl)
    by false q k = subst (λ (b : Bool). cond b false (cond (nat_eq z c) true (before c p (insert p c zs))) ≡ true) (sym q) (or_true (nat_eq z c) (before c p (insert p c zs)) k)

pub insert_append : (p c : ℕ) (xs ys : List ℕ) → insert p c (xs ++ ys) ≡ insert p c xs ++ insert p c ys
insert_append p c [] ys = refl
insert_append p c (x ∷ xs) ys = ap (λ zs. cond (nat_eq x p) (c ∷ x ∷ zs) (x ∷ zs)) (insert_append p c xs ys) ∙ by (nat_eq x p)
  where
    by : (q : Bool) → cond q (c ∷ x ∷ (insert p c xs ++ insert p c ys)) (x ∷ (insert p c xs ++ insert p c ys)) ≡ cond q (c ∷ x ∷ insert p c xs) (x ∷ insert p c xs) ++ insert p c ys
    by true = refl
    by false = refl

-- what stands before the first x is in front of it
pub in_front : (y x : ℕ) (front back : List ℕ) → before y x (front ++ x ∷ back) ≡ true → Contains front y
in_front y x [] back h = let q = not_front (nat_eq x x) (cond (nat_eq x y) true (before y x back)) h in let e : true ≡ false = sym (same_true x) ∙ q in cc
in_front y x (z ∷ front) back h = by (nat_eq z x) (nat_eq z y) refl h (in_front y x front back)
  where
    by : (a b : Bool) → nat_eq z y ≡ b → cond a false (cond b true (before y x (front ++ x ∷ back))) ≡ true → (before y x (front ++ x ∷ back) ≡ true → Contains front y) → Contains (z ∷ front) y
    by true b q k f = cc
    by false true q k f = (0, omega arith, grind (arith, q))
    by false false q k f = (let (i, l, e) = f k in (suc i, omega (arith, l), e))
