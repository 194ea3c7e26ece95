-- The last branch of an `if` with `elseif`s is the innermost.
use Rattle.std.proofs.Common.{◌≡◌, ◌++◌, ◌∷◌, [], refl, ap, List}
use Rattle.jl_program.specs.declared.tree.Expr.{Expr as Code}
use Rattle.jl_program.specs.declared.tree.Expr.TheViews as X
use Rattle.jl_resolve_forms.specs.declared.known.Arm.{Arm}
use Rattle.jl_resolve_forms.specs.Expressions.{chain_arms}

pub chain_arms_last : (xs : List Arm) (a : Arm) (e : Code) → chain_arms (xs ++ a ∷ []) e ≡ chain_arms xs (X.If a.test a.then e)
chain_arms_last [] a e = refl
chain_arms_last (x ∷ xs) a e = ap (λ y. X.If x.test x.then y) (chain_arms_last xs a e)
