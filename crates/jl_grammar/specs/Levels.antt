-- What stands before an operand, and what it makes of the operand where its chain ends.
use Rattle.std.specs.Prelude.{ℕ, Bool, true, false, ◌&&◌, ◌==◌, length, List, [], ◌∷◌, ◌++◌, Option, Some, None}
use Rattle.jl_grammar.specs.declared.state.Form.{Form}
use Rattle.jl_grammar.specs.declared.state.Lead.{Lead}
use Rattle.jl_grammar.specs.declared.state.Lead.TheVariants as L
use Rattle.jl_grammar.specs.declared.state.Left.{Left}
use Rattle.jl_grammar.specs.declared.state.Levels.{Levels}
use Rattle.jl_grammar.specs.declared.state.Outer.{Outer}
use Rattle.jl_grammar.specs.declared.state.Outer.TheVariants.{Spawn, Eval, Short, Otherwise}
use Rattle.jl_grammar.specs.declared.state.Pending.{Pending}
use Rattle.jl_grammar.specs.declared.state.PrefixAt.{PrefixAt}
use Rattle.jl_grammar.specs.declared.tree.Expr.{Expr}
use Rattle.jl_grammar.specs.declared.tree.Infix.{Infix}
use Rattle.jl_grammar.specs.declared.tree.Infix.TheVariants as I
use Rattle.jl_grammar.specs.Forms as M

-- nothing stands before the operand
abbrev pub no_levels : Levels
no_levels = record { or = None; and = None; comparison = None; sum = None; term = None; prefixes = [] }

abbrev pub pending_after : Lead → Bool → Pending
pending_after l r = record { lead = l; outer = []; levels = no_levels; returns = r }

abbrev pub no_pending : Bool → Pending
no_pending r = pending_after L.Plain r

-- a form that takes all that follows it begins
abbrev pub push_outer : Outer → Bool → Pending → Pending
push_outer x r p = record { lead = p.lead; outer = x ∷ p.outer; levels = no_levels; returns = r }

abbrev pub with_levels : Levels → Pending → Pending
with_levels ls p = record { lead = p.lead; outer = p.outer; levels = ls; returns = p.returns }

-- the operand with the operators before it, the innermost first
abbrev pub with_prefixes : List PrefixAt → Form Expr → Form Expr
with_prefixes [] e = e
with_prefixes (p ∷ ps) e = with_prefixes ps (M.prefix_expr p e)

-- the operand with the left operand before it, if there is one
abbrev pub with_left : Option Left → Form Expr → Form Expr
with_left None e = e
with_left (Some l) e = M.infix_expr l.left l.operator e

abbrev pub with_operand : Option (Form Expr) → Infix → Form Expr → Form Expr
with_operand None i e = e
with_operand (Some l) i e = M.infix_expr l i e

-- the operand as a unary, a term, a sum and a comparison
abbrev pub as_unary : Levels → Form Expr → Form Expr
as_unary ls e = with_prefixes ls.prefixes e

abbrev pub as_term : Levels → Form Expr → Form Expr
as_term ls e = with_left ls.term (as_unary ls e)

abbrev pub as_sum : Levels → Form Expr → Form Expr
as_sum ls e = with_left ls.sum (as_term ls e)

abbrev pub as_comparison : Levels → Form Expr → Form Expr
as_comparison ls e = with_left ls.comparison (as_sum ls e)

-- a comparison as a conjunction and as a disjunction
abbrev pub as_and : Levels → Form Expr → Form Expr
as_and ls e = with_operand ls.and I.And e

abbrev pub as_or : Levels → Form Expr → Form Expr
as_or ls e = with_operand ls.or I.Or (as_and ls e)

-- a form that ends with this expression, as a disjunction
abbrev pub end_outer : Outer → Form Expr → Form Expr
end_outer (Spawn ls a) e = as_or ls (as_comparison ls (M.spawn_expr a e))
end_outer (Eval ls a) e = as_or ls (as_comparison ls (M.eval_expr a e))
end_outer (Short ls a h) e = as_or ls (as_comparison ls (M.eval_method a (M.short_method h e)))
end_outer (Otherwise c a) e = M.choose_expr c a e

abbrev pub end_all_outer : List Outer → Form Expr → Form Expr
end_all_outer [] e = e
end_all_outer (x ∷ xs) e = end_all_outer xs (end_outer x e)

-- a comparison as the whole expression that ends with it
abbrev pub expression : Pending → Form Expr → Form Expr
expression p e = end_all_outer p.outer (as_or p.levels e)

-- ---- the levels behind an operator

abbrev pub levels_after_prefix : PrefixAt → Levels → Levels
levels_after_prefix p ls = record { or = ls.or; and = ls.and; comparison = ls.comparison; sum = ls.sum; term = ls.term; prefixes = p ∷ ls.prefixes }

abbrev pub levels_after_term : Infix → Levels → Form Expr → Levels
levels_after_term i ls e = record { or = ls.or; and = ls.and; comparison = ls.comparison; sum = ls.sum; term = Some (record { left = as_term ls e; operator = i }); prefixes = [] }

abbrev pub levels_after_sum : Infix → Levels → Form Expr → Levels
levels_after_sum i ls e = record { or = ls.or; and = ls.and; comparison = ls.comparison; sum = Some (record { left = as_sum ls e; operator = i }); term = None; prefixes = [] }

abbrev pub levels_after_comparison : Infix → Levels → Form Expr → Levels
levels_after_comparison i ls e = record { or = ls.or; and = ls.and; comparison = Some (record { left = as_sum ls e; operator = i }); sum = None; term = None; prefixes = [] }

-- where a type ends the comparison
abbrev pub levels_after_type : Levels → Levels
levels_after_type ls = record { or = ls.or; and = ls.and; comparison = None; sum = None; term = None; prefixes = [] }

abbrev pub levels_after_and : Levels → Form Expr → Levels
levels_after_and ls e = record { or = ls.or; and = Some (as_and ls e); comparison = None; sum = None; term = None; prefixes = [] }

abbrev pub levels_after_or : Levels → Form Expr → Levels
levels_after_or ls e = record { or = Some (as_or ls e); and = None; comparison = None; sum = None; term = None; prefixes = [] }

-- ---- whether a comparison begins here

abbrev pub no_left : Option Left → Bool
no_left None = true
no_left (Some l) = false

abbrev pub no_prefix : List PrefixAt → Bool
no_prefix ps = length ps == 0

abbrev pub is_comparison_start : Levels → Bool
is_comparison_start ls = no_left ls.comparison && (no_left ls.sum && (no_left ls.term && no_prefix ls.prefixes))
