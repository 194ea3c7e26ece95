-- Lists that are the same, from a place on, and values of which a contract sees the same.
use Rattle.std.proofs.Common.{◌≡◌, ◌∙◌, sym, ap, refl, map, ℕ, zero, suc, ◌+◌, ◌<◌, arith, add-one, List, [], ◌∷◌, length, drop, get_or}
use Rattle.jl_program.specs.declared.value.Value.{Value}
use Rattle.jl_program.specs.Meaning.{datum, value_of}
use Rattle.jl_calculus.proofs.ValueLemmas.{value_back}

-- two lists from a place on, and from the next on
pub same_at : {A : Type 0} (xs ys : List A) (i : ℕ) (x y : A) → i < length xs → i < length ys → x ≡ get_or xs i x → y ≡ get_or ys i y
    → (drop i xs ≡ drop i ys → (x ≡ y) × (drop (i + 1) xs ≡ drop (i + 1) ys)) × ((x ≡ y) × (drop (i + 1) xs ≡ drop (i + 1) ys) → drop i xs ≡ drop i ys)
same_at [] ys i x y p q e f = absurd (omega arith)
same_at (a ∷ xs) [] i x y p q e f = absurd (omega arith)
same_at (a ∷ xs) (b ∷ ys) zero x y p q e f = ((λ h. let g : a ≡ b = cc in let k : xs ≡ ys = cc in (e ∙ g ∙ sym f, k)), (λ h. let g : a ≡ b = sym e ∙ h.0 ∙ f in let k : xs ≡ ys = h.1 in cc))
same_at (a ∷ xs) (b ∷ ys) (suc i) x y p q e f = rw add-one (rw add-one at (same_at xs ys i x y (omega arith) (omega arith) e f))

pub ruleset alike = (same_at)

-- values of which a contract sees the same are the same
pub same_value : (a b : Value) → datum a ≡ datum b → a ≡ b
same_value a b e = sym (value_back a) ∙ ap value_of e ∙ value_back b

pub same_values : (xs ys : List Value) → map datum xs ≡ map datum ys → xs ≡ ys
same_values [] [] e = refl
same_values [] (b ∷ ys) e = cc
same_values (a ∷ xs) [] e = cc
same_values (a ∷ xs) (b ∷ ys) e =
    let f : datum a ≡ datum b = cc in
    let g : map datum xs ≡ map datum ys = cc in
    let h : a ≡ b = same_value a b f in
    let k : xs ≡ ys = same_values xs ys g in
    cc
