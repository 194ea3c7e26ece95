-- Parts of lists by number: one more at the end, and what is in them.
use Rattle.std.proofs.Common.{◌≡◌, ◌∙◌, ap, ℕ, zero, suc, ◌+◌, ◌⊎◌, inl, inr, arith, Bool, true, false, cond, List, [], ◌∷◌, ◌++◌, length}
use Rattle.std.specs.List.{Contains}
use Rattle.jl_methods.specs.Filters.{numbers_from}

-- ---- one more

cond_push : {X : Type 0} (b : Bool) (x : X) (r s t : List X) → r ≡ s ++ t → cond b (x ∷ r) r ≡ cond b (x ∷ s) s ++ t
cond_push true x r s t e = ap (λ xs. x ∷ xs) e
cond_push false x r s t e = e

pub numbers_push : {X : Type 0} (test : X → Bool) (n : ℕ) (xs : List X) (x : X)
    → numbers_from test n (xs ++ x ∷ []) ≡ numbers_from test n xs ++ cond (test x) ((n + length xs) ∷ []) []
numbers_push test n [] x =
    let e : n ≡ n + 0 = omega arith in
    let one : ℕ → List ℕ = λ m. cond (test x) (m ∷ []) [] in
    ap one e
numbers_push test n (y ∷ xs) x =
    let e : (n + 1) + length xs ≡ n + suc (length xs) = omega arith in
    let more : ℕ → List ℕ = λ m. numbers_from test (n + 1) xs ++ cond (test x) (m ∷ []) [] in
    cond_push (test y) n (numbers_from test (n + 1) (xs ++ x ∷ [])) (numbers_from test (n + 1) xs) (cond (test x) ((n + suc (length xs)) ∷ []) [])
    (numbers_push test (n + 1) xs x ∙ ap more e)

-- ---- what is in a list

pub here : {X : Type 0} (y x : X) (xs : List X) → y ≡ x → Contains (y ∷ xs) x
here y x xs e = (0, omega arith, e)

pub there : {X : Type 0} (y x : X) (xs : List X) → Contains xs x → Contains (y ∷ xs) x
there y x xs (k, l, e) = (suc k, omega (arith, l), e)

pub here_or_there : {X : Type 0} (y x : X) (xs : List X) → Contains (y ∷ xs) x → (y ≡ x) ⊎ Contains xs x
here_or_there y x xs (zero, l, e) = inl e
here_or_there y x xs (suc k, l, e) = inr (k, omega (arith, l), e)

pub none_there : {X : Type 0} (x : X) (xs : List X) → xs ≡ [] → Contains xs x → ⊥
none_there x xs e (k, l, i) = omega (arith, l, ap length e)
