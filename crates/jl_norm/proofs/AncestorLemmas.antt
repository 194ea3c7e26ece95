-- The ancestors of a declaration.
use Rattle.std.proofs.Common.{◌≡◌, ◌∙◌, ap, refl, ℕ, zero, suc, ◌+◌, ◌≤◌, arith, List, [], ◌∷◌, ◌++◌, map, length, get_or}
use Rattle.jl_model.specs.declared.ty.Ty.{Ty, out-Ty}
use Rattle.jl_model.specs.declared.ty.Ty.TheViews.{outs-Any, outs-Union, outs-Tuple, outs-Nominal, outs-Var}
use Rattle.jl_model.specs.declared.ty.Ty.TheViews as V
use Rattle.jl_model.specs.declared.ty.Ty.TheVariants as W
use Rattle.jl_model.specs.declared.ty.Decl.{Decl}
use Rattle.jl_model.specs.Ancestors.{Ancestor, put_under, line_above, line_of, lines_after}
use Rattle.jl_model.specs.Refusals.{ancestors}
use Rattle.jl_model.proofs.AncestorLemmas.{long-snoc}

pub lines_long : (ls : List (List Ancestor)) (ds : List Decl) → length (lines_after ls ds) ≡ length ls + length ds
lines_long ls [] = omega arith
lines_long ls (d ∷ ds) = let h = lines_long (ls ++ line_of ls d ∷ []) ds in omega (arith, long-snoc ls (line_of ls d))

past : {A : Type 0} (xs : List A) (k : ℕ) (a : A) → length xs ≤ k → get_or xs k a ≡ a
past [] k a h = refl
past (x ∷ xs) zero a h = absurd (omega arith)
past (x ∷ xs) (suc k) a h = past xs k a (omega arith)

-- the parent's form
pub ancestors-any : (ds : List Decl) (d : Decl) → d.parent ≡ W.Any → ancestors ds d ≡ []
ancestors-any ds d e = ap (line_above (lines_after [] ds)) (ap out-Ty e ∙ outs-Any)

pub ancestors-union : (ds : List Decl) (d : Decl) (ts : List Ty) → d.parent ≡ V.Union ts → ancestors ds d ≡ []
ancestors-union ds d ts e = ap (line_above (lines_after [] ds)) (ap out-Ty e ∙ outs-Union ts)

pub ancestors-tuple : (ds : List Decl) (d : Decl) (ts : List Ty) → d.parent ≡ V.Tuple ts → ancestors ds d ≡ []
ancestors-tuple ds d ts e = ap (line_above (lines_after [] ds)) (ap out-Ty e ∙ outs-Tuple ts)

pub ancestors-var : (ds : List Decl) (d : Decl) (v : ℕ) → d.parent ≡ W.Var v → ancestors ds d ≡ []
ancestors-var ds d v e = ap (line_above (lines_after [] ds)) (ap out-Ty e ∙ outs-Var v)

pub ancestors-nominal : (ds : List Decl) (d : Decl) (p : ℕ) (ys : List Ty) → d.parent ≡ V.Nominal p ys → ancestors ds d ≡ map (put_under ys) (get_or (lines_after [] ds) p [])
ancestors-nominal ds d p ys e = ap (line_above (lines_after [] ds)) (ap out-Ty e ∙ outs-Nominal p ys)

pub ancestors_none : (ds : List Decl) (d : Decl) (p : ℕ) (ys : List Ty) → d.parent ≡ V.Nominal p ys → length ds ≤ p → ancestors ds d ≡ []
ancestors_none ds d p ys e h = ancestors-nominal ds d p ys e ∙ ap (map (put_under ys)) (past (lines_after [] ds) p [] (omega (arith, lines_long [] ds)))

pub ruleset counting = (ancestors-any, ancestors-union, ancestors-tuple, ancestors-var)
