-- The bindings of a signature, one after another.
use Rattle.std.proofs.Common.{◌≡◌, ◌∙◌, sym, ap, refl, ℕ, zero, suc, ◌+◌, ◌<◌, ◌≤◌, arith, List, [], ◌∷◌, ◌++◌, length, drop, append_assoc, append-nil}
use Rattle.jl_model.specs.declared.ty.Bound.{Bound}
use Rattle.jl_model.specs.AllRows.{each_var}

here : {A : Type 0} (f : ℕ → A) (i j : ℕ) (bs : List Bound) → i < length bs → each_var f j (drop i bs) ≡ f j ∷ each_var f (j + 1) (drop (i + 1) bs)
here f i j [] l = absurd (omega arith)
here f zero j (b ∷ bs) l = refl
here f (suc i) j (b ∷ bs) l = let e : suc (i + 1) ≡ suc i + 1 = omega arith in here f i j bs (omega arith) ∙ ap (λ k. f j ∷ each_var f (j + 1) (drop k (b ∷ bs))) e

past : (bs : List Bound) (i : ℕ) → length bs ≤ i → drop i bs ≡ []
past [] zero l = refl
past [] (suc i) l = refl
past (b ∷ bs) zero l = absurd (omega arith)
past (b ∷ bs) (suc i) l = past bs i (omega arith)

-- one more is found
pub one_more : {A : Type 0} (f : ℕ → A) (bs : List Bound) (i : ℕ) (x : A) (old new whole : List A) → i < length bs → x ≡ f i → new ≡ old ++ x ∷ [] → (old ++ each_var f i (drop i bs)) ≡ whole → (new ++ each_var f (i + 1) (drop (i + 1) bs)) ≡ whole
one_more f bs i x old new whole l e n h =
    ap (λ z. z ++ each_var f (i + 1) (drop (i + 1) bs)) n ∙ append_assoc old (x ∷ []) (each_var f (i + 1) (drop (i + 1) bs))
    ∙ ap (λ y. old ++ y ∷ each_var f (i + 1) (drop (i + 1) bs)) e ∙ ap (λ z. old ++ z) (sym (here f i i bs l)) ∙ h

-- all are found
pub all_found : {A : Type 0} (f : ℕ → A) (bs : List Bound) (i : ℕ) (old whole : List A) → length bs ≤ i → (old ++ each_var f i (drop i bs)) ≡ whole → old ≡ whole
all_found f bs i old whole l h = sym (append-nil old) ∙ ap (λ z. old ++ each_var f i z) (sym (past bs i l)) ∙ h
