-- The list of the types found.
use Rattle.std.proofs.Common.{◌≡◌, ◌∙◌, sym, ap, refl, ℕ, ◌<◌, ◌≤◌, arith, Bool, true, false, nat_lt, List, [], ◌∷◌, ◌++◌, length, ◌⊎◌, inl, inr}
use Rattle.jl_model.specs.declared.ty.Ty.{Ty}
use Rattle.jl_model.specs.declared.ty.Ty.TheVariants as W
use Rattle.jl_model.specs.declared.ty.Written.{Written}
use Rattle.jl_model.specs.Rows.{width}
use Rattle.jl_model.specs.Subtype.{Table, Fixed, at}
use Rattle.jl_model.specs.Signature.{Row}
use Rattle.jl_model.proofs.AncestorLemmas.{get_before, long-snoc}
use Rattle.jl_types.proofs.TableLemmas.{get-past}
use Rattle.jl_model.specs.Found.{hits, filled, found}
use Rattle.jl_search.proofs.AbstractLemmas.{get_end}
use Rattle.jl_search.proofs.FillLemmas.{long_fill, long_hits}

pub below_or : (v m : ℕ) → (v < m) ⊎ (m ≤ v)
below_or v m = by_test (nat_lt v m) refl
  where
    by_test : (b : Bool) → nat_lt v m ≡ b → (v < m) ⊎ (m ≤ v)
    by_test true e = inl (grind (arith, e))
    by_test false e = inr (grind (arith, e))

-- the values so far are those of F
abbrev pub Gives : (ℕ → Ty) → List Ty → Type 0
Gives F vs = (v : ℕ) → v < length vs → at vs v ≡ F v

pub gives_none : (F : ℕ → Ty) → Gives F []
gives_none F v l = absurd (omega arith)

push_at : (F : ℕ → Ty) (vs : List Ty) (t : Ty) → Gives F vs → t ≡ F (length vs) → (v : ℕ) → v < length (vs ++ t ∷ []) → (v < length vs) ⊎ (length vs ≤ v) → at (vs ++ t ∷ []) v ≡ F v
push_at F vs t h e v l (inl k) = get_before vs t W.Any v k ∙ h v k
push_at F vs t h e v l (inr k) =
    let i : v ≡ length vs = omega (arith, long-snoc vs t) in
    ap (at (vs ++ t ∷ [])) i ∙ get_end vs t W.Any ∙ e ∙ ap F (sym i)

pub gives_push : (F : ℕ → Ty) (vs : List Ty) (t : Ty) → Gives F vs → t ≡ F (length vs) → Gives F (vs ++ t ∷ [])
gives_push F vs t h e v l = push_at F vs t h e v l (below_or v (length vs))

all_at : (F : ℕ → Ty) (vs : List Ty) → Gives F vs → ((v : ℕ) → length vs ≤ v → F v ≡ W.Any) → (v : ℕ) → (v < length vs) ⊎ (length vs ≤ v) → at vs v ≡ F v
all_at F vs h g v (inl k) = h v k
all_at F vs h g v (inr k) = get-past vs v W.Any k ∙ sym (g v k)

-- the list is the function
pub gives_all : (F : ℕ → Ty) (vs : List Ty) → Gives F vs → ((v : ℕ) → length vs ≤ v → F v ≡ W.Any) → at vs ≡ F
gives_all F vs h g = λ i v. all_at F vs h g v (below_or v (length vs)) i

-- a number past the variables
pub found_past : (n : Table) (g : Fixed) (s : Written) (r : Row) (ts : List Ty) (v : ℕ) → width s ≤ v → found n g s r ts v ≡ W.Any
found_past n g s r ts v l = get-past (filled n g s r ts [] (hits n g s r ts 0 s.vars)) v W.Any (omega (arith, l, long_fill n g s r ts [] (hits n g s r ts 0 s.vars), long_hits n g s r ts 0 s.vars))
