-- The variables from a place on, and which of them a type sees.
use Rattle.std.proofs.Common.{◌≡◌, ◌∙◌, refl, sym, ap, ℕ, zero, suc, ◌+◌, ◌≤◌, ◌<◌, arith, Bool, true, false, cond, not, nat_lt, min, List, [], ◌∷◌, ◌++◌, length, take, drop, Option, Some, None, is_some}
use Rattle.std.proofs.Math.Nat.{min-le_left, min-le_right, le-min}
use Rattle.std.specs.Option.{option_or}
use Rattle.jl_program.specs.Names.{same_text}
use Rattle.jl_names.specs.Stacks.{last_from, last_place}
use Rattle.jl_written.specs.declared.reading.Sight.{Sight}
use Rattle.jl_written.specs.declared.reading.Sight.TheVariants.{All, From}
use Rattle.jl_written.specs.declared.reading.TypeVar.{TypeVar}
use Rattle.jl_written.specs.Meaning.{names_of, later, var_of}
use Rattle.jl_written.specs.Reads.{seen, seen_from, start_of, is_from, visible, with_own, in_bound}
use Rattle.jl_written.specs.Signatures.{shifted}
use Rattle.jl_written.proofs.VarLemmas.{var_none, var_here}

-- A NAME AMONG THE VARIABLES FROM A PLACE ON
pub none_from : (vs : List TypeVar) (n : List ℕ) (k : ℕ) → var_of vs n ≡ None → var_of (drop k vs) n ≡ None
none_from vs n zero h = h
none_from [] n (suc k) h = refl
none_from (v ∷ vs) n (suc k) h = by (var_of vs n) refl h (none_from vs n k)
  where
    by : (o : Option TypeVar) → var_of vs n ≡ o → later (cond (same_text n v.name) (Some v) None) (var_of vs n) ≡ None → (var_of vs n ≡ None → var_of (drop k vs) n ≡ None) → var_of (drop k vs) n ≡ None
    by None e g r = r e
    by (Some w) e g r = absurd (let f : Some w ≡ None = sym (ap (later (cond (same_text n v.name) (Some v) None)) e) ∙ g in cc)

pub none_behind : (i : ℕ) (vs : List TypeVar) (n : List ℕ) (p k : ℕ) → last_from i (names_of vs) n ≡ Some p → p < i + k → var_of (drop k vs) n ≡ None
none_behind i vs n p zero h l = absurd (let r = var_here i vs n p h in let a = r.1.0 in omega (arith, a, l))
none_behind i [] n p (suc k) h l = refl
none_behind i (v ∷ vs) n p (suc k) h l = by (last_from (i + 1) (names_of vs) n) refl h (λ e. none_behind (i + 1) vs n p k e (omega (arith, l)))
  where
    by : (o : Option ℕ) → last_from (i + 1) (names_of vs) n ≡ o → option_or o (cond (same_text n v.name) (Some i) None) ≡ Some p → (last_from (i + 1) (names_of vs) n ≡ Some p → var_of (drop k vs) n ≡ None) → var_of (drop k vs) n ≡ None
    by (Some q) e f r = r (e ∙ f)
    by None e f r = none_from vs n k (var_none (i + 1) vs n e)

pub same_behind : (i : ℕ) (vs : List TypeVar) (n : List ℕ) (p k : ℕ) → last_from i (names_of vs) n ≡ Some p → i + k ≤ p → var_of (drop k vs) n ≡ var_of vs n
same_behind i vs n p zero h l = refl
same_behind i [] n p (suc k) h l = refl
same_behind i (v ∷ vs) n p (suc k) h l = by (last_from (i + 1) (names_of vs) n) (same_text n v.name) refl h (λ e. same_behind (i + 1) vs n p k e (omega (arith, l)))
  where
    by : (o : Option ℕ) (b : Bool) → last_from (i + 1) (names_of vs) n ≡ o → option_or o (cond b (Some i) None) ≡ Some p → (last_from (i + 1) (names_of vs) n ≡ Some p → var_of (drop k vs) n ≡ var_of vs n) → var_of (drop k vs) n ≡ var_of (v ∷ vs) n
    by (Some q) b e f r =
        let w = (var_here (i + 1) vs n p (e ∙ f)).1.1.1.1 in
        r (e ∙ f) ∙ w ∙ sym (ap (later (cond (same_text n v.name) (Some v) None)) w)
    by None true e f r = absurd (let z : Some i ≡ Some p = f in let a : i ≡ p = cc in omega (arith, a, l))
    by None false e f r = absurd (let z : None ≡ Some p = f in cc)

lt_false : (p k : ℕ) → nat_lt p k ≡ false → k ≤ p
lt_false p k h = grind (arith, h)

lt_true : (p k : ℕ) → nat_lt p k ≡ true → p < k
lt_true p k h = grind (arith, h)

-- a name has a last place from there on where it means a variable from there on
pub placed_from : (vs : List TypeVar) (n : List ℕ) (k : ℕ) → is_from k (last_place (names_of vs) n) ≡ is_some (var_of (drop k vs) n)
placed_from vs n k = by (last_place (names_of vs) n) refl
  where
    at : (p : ℕ) (b : Bool) → last_place (names_of vs) n ≡ Some p → nat_lt p k ≡ b → not b ≡ is_some (var_of (drop k vs) n)
    at p true e f = sym (ap is_some (none_behind 0 vs n p k e (let l = lt_true p k f in omega (arith, l))))
    at p false e f = sym (ap is_some (same_behind 0 vs n p k e (let l = lt_false p k f in omega (arith, l)) ∙ (var_here 0 vs n p e).1.1.1.1))

    by : (o : Option ℕ) → last_place (names_of vs) n ≡ o → is_from k (last_place (names_of vs) n) ≡ is_some (var_of (drop k vs) n)
    by None e = ap (is_from k) e ∙ ap is_some (sym (none_from vs n k (var_none 0 vs n e)))
    by (Some p) e = ap (is_from k) e ∙ at p (nat_lt p k) e refl

-- WHICH OF THEM A TYPE SEES
pub split : (n : ℕ) (vs : List TypeVar) → take n vs ++ drop n vs ≡ vs
split zero vs = refl
split (suc n) [] = refl
split (suc n) (v ∷ vs) = ap (λ us. v ∷ us) (split n vs)

split_at : (n k m : ℕ) (vs : List TypeVar) → k ≤ length vs → m ≤ n → m ≤ k → ((j : ℕ) → j ≤ n → j ≤ k → j ≤ m) → drop m vs ≡ drop n (take k vs) ++ drop k vs
split_at zero k m vs h a b g = let e : m ≡ 0 = omega (arith, a) in ap (λ j. drop j vs) e ∙ sym (split k vs)
split_at (suc n) zero m vs h a b g = let e : m ≡ 0 = omega (arith, b) in ap (λ j. drop j vs) e
split_at (suc n) (suc k) m [] h a b g = absurd (omega (arith, h))
split_at (suc n) (suc k) zero (v ∷ vs) h a b g = absurd (let c = g 1 (omega arith) (omega arith) in omega (arith, c))
split_at (suc n) (suc k) (suc m) (v ∷ vs) h a b g = split_at n k m vs (omega (arith, h)) (omega (arith, a)) (omega (arith, b)) (λ j x y. let c = g (suc j) (omega (arith, x)) (omega (arith, y)) in omega (arith, c))

split_min : (n k m : ℕ) (vs : List TypeVar) → k ≤ length vs → m ≡ min n k → drop m vs ≡ drop n (take k vs) ++ drop k vs
split_min n k m vs h e =
    let a = min-le_left n k in
    let b = min-le_right n k in
    split_at n k m vs h (omega (arith, a, e)) (omega (arith, b, e)) (λ j x y. let c = le-min {k = j} {a = n} {b = k} x y in omega (arith, c, e))

-- variables behind others
pub drop_whole : (us vs : List TypeVar) → drop (length us) (us ++ vs) ≡ vs
drop_whole [] vs = refl
drop_whole (u ∷ us) vs = drop_whole us vs

pub take_whole : (us vs : List TypeVar) → take (length us) (us ++ vs) ≡ us
take_whole [] vs = refl
take_whole (u ∷ us) vs = ap (λ ws. u ∷ ws) (take_whole us vs)

pub drop_more : (k : ℕ) (us vs : List TypeVar) → k ≤ length us → drop k (us ++ vs) ≡ drop k us ++ vs
drop_more zero us vs h = refl
drop_more (suc k) [] vs h = absurd (omega (arith, h))
drop_more (suc k) (u ∷ us) vs h = drop_more k us vs (omega (arith, h))

pub take_more : (k : ℕ) (us vs : List TypeVar) → k ≤ length us → take k (us ++ vs) ≡ take k us
take_more zero us vs h = refl
take_more (suc k) [] vs h = absurd (omega (arith, h))
take_more (suc k) (u ∷ us) vs h = ap (λ ws. u ∷ ws) (take_more k us vs (omega (arith, h)))

pub shifted_by_none : (vs : List TypeVar) → shifted 0 vs ≡ vs
shifted_by_none [] = refl
shifted_by_none (v ∷ vs) =
    let e : 0 + v.number ≡ v.number = omega arith in
    let w : ℕ → TypeVar = λ k. record { name = v.name; number = k; usable = v.usable } in
    ap (λ k. w k ∷ shifted 0 vs) e ∙ ap (λ us. v ∷ us) (shifted_by_none vs)

pub visible_is : (first vars : List TypeVar) (s : Sight) → visible (seen_from first vars s) ≡ first ++ drop (start_of s) vars
visible_is first vars All = refl
visible_is first vars (From n) = refl

-- what the variables of a list see, and what their bounds see
pub widened_from : (first vars : List TypeVar) (s : Sight) (n k m : ℕ) → k ≤ length vars → s ≡ From n → m ≡ min n k → seen first (drop m vars) true ≡ with_own (drop k vars) (seen_from first (take k vars) s)
widened_from first vars s n k m l e f =
    ap (λ us. seen first us true) (split_min n k m vars l f) ∙ sym (ap (λ z. with_own (drop k vars) (seen_from first (take k vars) z)) e)

pub bounded_from : (first vars : List TypeVar) (s : Sight) (n k m : ℕ) → k ≤ length vars → s ≡ From n → m ≡ min n k → seen first (drop m vars) true ≡ with_own (drop k vars) (in_bound (seen_from first (take k vars) s))
bounded_from first vars s n k m l e f =
    ap (λ us. seen first us true) (split_min n k m vars l f) ∙ sym (ap (λ z. with_own (drop k vars) (in_bound (seen_from first (take k vars) z))) e)
