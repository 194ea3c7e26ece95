-- Values are found: where any types serve for a left and a right row, the types found serve.
use Rattle.std.proofs.Common.{◌≡◌, ◌∙◌, ap, refl, ℕ, zero, suc, ◌<◌, ◌≤◌, ◌⊎◌, arith, Bool, true, false, nat_lt, List, [], ◌∷◌, length, inl, inr}
use Rattle.std.specs.List.{Contains}
use Rattle.jl_model.specs.declared.ty.Ty.{Ty}
use Rattle.jl_model.specs.declared.ty.Ty.TheVariants as W
use Rattle.jl_model.specs.declared.ty.Decl.{Decl}
use Rattle.jl_model.specs.declared.ty.Written.{Written}
use Rattle.jl_model.specs.Ancestors.{table_of}
use Rattle.jl_model.specs.Rows.{width, vars_in, Occurs}
use Rattle.jl_model.specs.Signature.{Row, IsRow, fixed, RowBelow}
use Rattle.jl_model.specs.Subtype.{at}
use Rattle.jl_model.specs.Refusals.{Declared}
use Rattle.jl_model.specs.Found.{found, filled, hits}
use Rattle.jl_model.proofs.FormLemmas.{vars-any}
use Rattle.jl_subsume.specs.Scoped.{IsScoped, IsPlaced, IsOrdered, HasNormalArguments}
use Rattle.jl_subsig.specs.Values.{RowBelowBy, values}
use Rattle.jl_search.proofs.HasLemmas.{has_of, has_none}
use Rattle.jl_subsume.proofs.ScopeLemmas.{occurs_small}
use Rattle.jl_subsig.proofs.RightLemmas.{right_row, right_bounds}
use Rattle.jl_subsig.proofs.LeftLemmas.{IsLeft, IsValue, lefts, left_forms, left_laws, left_bounds}
use Rattle.jl_search.proofs.FillLemmas.{long_fill, long_hits}
use Rattle.jl_search.proofs.ValueLaw as L

get_past : (xs : List Ty) (v : ℕ) → length xs ≤ v → at xs v ≡ W.Any
get_past [] v l = refl
get_past (x ∷ xs) zero l = absurd (omega (arith, l))
get_past (x ∷ xs) (suc v) l = get_past xs v (omega (arith, l))

below_or : (v m : ℕ) → (v < m) ⊎ (m ≤ v)
below_or v m = by_test (nat_lt v m) refl
  where
    by_test : (b : Bool) → nat_lt v m ≡ b → (v < m) ⊎ (m ≤ v)
    by_test true e = inl (grind (arith, e))
    by_test false e = inr (grind (arith, e))

pub values_are_found : (ds : List Decl) → Declared ds → (a b : Written) → IsScoped a → IsOrdered (table_of ds) a → HasNormalArguments (table_of ds) a → IsScoped b → IsPlaced b
    → (l r : Row) → IsRow (table_of ds) a l → IsRow (table_of ds) b r → RowBelow (table_of ds) a l b r → RowBelowBy (table_of ds) a l b r (values (table_of ds) a l b r)
values_are_found ds h a b ascope ordered normals bscope bplaced l r lrow rrow (f, serves, over, meet) =
    let n = table_of ds in
    let g = fixed a l in
    let P = IsLeft ds h a ascope ordered normals l lrow in
    let Q = IsValue ds h a ascope ordered normals l lrow in
    let laws = left_laws ds h a ascope ordered normals l lrow in
    let forms = left_forms ds h a ascope ordered normals l lrow in
    let bounds = left_bounds ds h a ascope ordered normals l lrow in
    let ls = lefts ds h a ascope ordered normals l lrow in
    let right = right_row n b bscope bplaced r rrow in
    let rights = right_bounds n b bscope bplaced r rrow in
    let small : (v : ℕ) → Occurs b v r.parts → v < width b = λ v o. occurs_small b bscope n r rrow v o in
    let v = L.values ds h g P Q b r l.parts f laws forms bounds right ls rights small serves meet in
    let inside : (x : ℕ) → x < width b → (w : ℕ) → Contains (vars_in (found n g b r l.parts x)) w → Occurs a w l.parts
    = λ x i w c. L.values_over ds h g P Q b r l.parts f laws forms bounds right ls rights small serves meet (λ w. Occurs a w l.parts) (λ t q w i. q.over w i) x i w (has_of (vars_in (found n g b r l.parts x)) w c) in (
      v.0,
      λ x w c. elim (below_or x (width b)) [
        | inl i ↦ inside x i w c
        | inr i ↦
            let e : found n g b r l.parts x ≡ W.Any = get_past (filled n g b r l.parts [] (hits n g b r l.parts 0 b.vars)) x (omega (arith, i, long_fill n g b r l.parts [] (hits n g b r l.parts 0 b.vars), long_hits n g b r l.parts 0 b.vars)) in
            absurd (has_none (vars_in (found n g b r l.parts x)) w (ap vars_in e ∙ vars-any) (has_of (vars_in (found n g b r l.parts x)) w c))
      ],
      v.1,
    )
