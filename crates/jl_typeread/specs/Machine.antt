-- The reading of types and of variables, token by token.
use Rattle.std.specs.Prelude.{ℕ, Bool, true, false, List, [], ◌∷◌, Option, Some, None}
use Rattle.jl_token.specs.declared.token.Operator.TheVariants as op
use Rattle.jl_typeread.specs.declared.terminal.Word.TheVariants as word
use Rattle.jl_typeread.specs.declared.terminal.Terminal.{Terminal}
use Rattle.jl_typeread.specs.declared.terminal.Terminal.TheVariants as S
use Rattle.jl_typeread.specs.declared.terminal.Lexeme.{Lexeme}
use Rattle.jl_typeread.specs.declared.tree.TypeText.{TypeText}
use Rattle.jl_typeread.specs.declared.tree.VarText.{VarText}
use Rattle.jl_typeread.specs.declared.tree.VarText.TheVariants as V
use Rattle.jl_typeread.specs.declared.deep.Deep.{Deep}
use Rattle.jl_typeread.specs.declared.deep.Deep.TheVariants.{Built}
use Rattle.jl_typeread.specs.declared.deep.Mark.{Mark}
use Rattle.jl_typeread.specs.declared.deep.Mark.TheVariants as mark
use Rattle.jl_typeread.specs.declared.state.TypeSoFar.{TypeSoFar}
use Rattle.jl_typeread.specs.declared.state.TypeSoFar.TheVariants.{Plain, Whole}
use Rattle.jl_typeread.specs.declared.state.Bound.{Bound}
use Rattle.jl_typeread.specs.declared.state.Bound.TheVariants as B
use Rattle.jl_typeread.specs.declared.state.Enclosure.{Enclosure}
use Rattle.jl_typeread.specs.declared.state.Enclosure.TheVariants.{One, Braces}
use Rattle.jl_typeread.specs.declared.state.Frame.{Frame}
use Rattle.jl_typeread.specs.declared.state.Frame.TheVariants.{Argument, Paren, Where, Variable}
use Rattle.jl_typeread.specs.declared.state.Point.{Point}
use Rattle.jl_typeread.specs.declared.state.Point.TheVariants as P
use Rattle.jl_typeread.specs.declared.state.State.{State}
use Rattle.jl_typeread.specs.declared.state.Taken.{Taken}
use Rattle.jl_typeread.specs.declared.state.Taken.TheVariants as taken
use Rattle.jl_typeread.specs.declared.state.Turn.{Turn}
use Rattle.jl_typeread.specs.declared.state.Turn.TheVariants.{Goes, Wrong}
use Rattle.jl_typeread.specs.declared.state.Turn.TheVariants as turn
use Rattle.jl_typeread.specs.Depth.{plain_type, no_arguments, no_variables, with_argument, with_variable, applied_type, paren, below_bound, above_bound, between_bound}

-- what a token is to a state, with the state behind it
abbrev pub turn_of : Taken → State → Turn
turn_of taken.Goes s = Goes s
turn_of (taken.Type t) s = turn.Type t
turn_of (taken.Variables vs) s = turn.Variables vs
turn_of taken.Wrong s = Wrong

-- the reading goes on at this point
abbrev pub at : Point → List Frame → Turn
at p K = Goes (record { point = p; stack = K })

-- a type that was read, as a tree
abbrev pub tree_of : TypeSoFar → Deep TypeText
tree_of (Plain a n) = plain_type a n
tree_of (Whole t) = t

-- a variable that ends with this type
abbrev pub variable : Bound → TypeSoFar → Option (Deep VarText)
variable B.First (Plain a n) = Some (Built (V.Free a n) 0)
variable B.First (Whole t) = None
variable (B.Below a n) h = Some (below_bound a n (tree_of h))
variable (B.Above a n) h = Some (above_bound a n (tree_of h))
variable (B.Between low a n) h = Some (between_bound low a n (tree_of h))

-- a type begins
abbrev pub begin_type : Terminal → ℕ → List Frame → Turn
begin_type (S.Name n) a K = at (P.Have (Plain a n)) K
begin_type (S.Operator op.OpenParen) a K = at P.Want (Paren a ∷ K)
begin_type s a K = Wrong

-- a type behind the mark of an argument
abbrev pub after_mark : Mark → List Frame → Turn
after_mark m (Argument a n xs other ∷ K) = at P.Want (Argument a n xs m ∷ K)
after_mark m K = Wrong

-- an argument begins, behind its mark if it has one
abbrev pub at_next : Terminal → ℕ → List Frame → Turn
at_next (S.Operator op.Subtype) b K = after_mark (mark.Below b) K
at_next (S.Operator op.Supertype) b K = after_mark (mark.Above b) K
at_next s b K = begin_type s b K

-- `}` behind `{`
abbrev pub close_empty : List Frame → Turn
close_empty (Argument a n xs m ∷ K) = at (P.Have (Whole (applied_type a n xs))) K
close_empty K = Wrong

-- the same behind `{`, where the braces may also end
abbrev pub at_first : Terminal → ℕ → List Frame → Turn
at_first (S.Operator op.CloseBrace) b K = close_empty K
at_first s b K = at_next s b K

-- a token behind variables that have ended, alone
abbrev pub end_of_variable : Option (Deep VarText) → List Frame → Turn
end_of_variable (Some v) [] = turn.Variables (with_variable no_variables v)
end_of_variable v K = Wrong

-- a token that is not of the type before it
abbrev pub end_of_type : TypeSoFar → List Frame → Turn
end_of_type h [] = turn.Type (tree_of h)
end_of_type h (Variable v One ∷ K) = end_of_variable (variable v h) K
end_of_type h K = Wrong

-- `{` behind a type
abbrev pub open_brace : TypeSoFar → List Frame → Turn
open_brace (Plain a n) K = at P.First (Argument a n no_arguments mark.Exact ∷ K)
open_brace (Whole t) K = end_of_type (Whole t) K

-- `}` behind a variable
abbrev pub close_variables : Option (Deep VarText) → Deep (List VarText) → List Frame → Turn
close_variables (Some v) vs K = at (P.Closed (with_variable vs v)) K
close_variables None vs K = Wrong

-- `}` behind a variable, if that stands in braces
abbrev pub close_enclosure : Option (Deep VarText) → Enclosure → List Frame → Turn
close_enclosure v One K = end_of_variable v K
close_enclosure v (Braces vs) K = close_variables v vs K

-- `}` behind a type
abbrev pub close_brace : TypeSoFar → List Frame → Turn
close_brace h (Argument a n xs m ∷ K) = at (P.Have (Whole (applied_type a n (with_argument xs m (tree_of h))))) K
close_brace h (Variable v l ∷ K) = close_enclosure (variable v h) l K
close_brace h K = end_of_type h K

-- `,` behind a variable
abbrev pub next_variable : Option (Deep VarText) → Deep (List VarText) → List Frame → Turn
next_variable (Some v) vs K = at P.Variable (Variable B.First (Braces (with_variable vs v)) ∷ K)
next_variable None vs K = Wrong

-- `,` behind a variable, if that stands in braces
abbrev pub next_in_enclosure : Option (Deep VarText) → Enclosure → List Frame → Turn
next_in_enclosure v One K = end_of_variable v K
next_in_enclosure v (Braces vs) K = next_variable v vs K

-- `,` behind a type
abbrev pub after_comma : TypeSoFar → List Frame → Turn
after_comma h (Argument a n xs m ∷ K) = at P.Next (Argument a n (with_argument xs m (tree_of h)) mark.Exact ∷ K)
after_comma h (Variable v l ∷ K) = next_in_enclosure (variable v h) l K
after_comma h K = end_of_type h K

-- `)` behind the one variable of a `where`
abbrev pub close_where : Option (Deep VarText) → List Frame → Turn
close_where (Some v) (Where a t ∷ K) = at (P.Have (Whole (paren a t (with_variable no_variables v)))) K
close_where v K = end_of_variable v K

-- `)` behind a type
abbrev pub close_paren : TypeSoFar → List Frame → Turn
close_paren h (Paren a ∷ K) = at (P.Have (Whole (paren a (tree_of h) no_variables))) K
close_paren h (Variable v One ∷ K) = close_where (variable v h) K
close_paren h K = end_of_type h K

-- `where` behind a type
abbrev pub after_where : TypeSoFar → List Frame → Turn
after_where h (Paren a ∷ K) = at P.Where (Where a (tree_of h) ∷ K)
after_where h K = end_of_type h K

-- `<:` behind the first type of a variable, which is its name or its lower bound
abbrev pub first_subtype : TypeSoFar → Enclosure → List Frame → Turn
first_subtype (Plain a n) l K = at P.Want (Variable (B.Below a n) l ∷ K)
first_subtype (Whole t) l K = at (P.Low t) (Variable B.First l ∷ K)

-- `<:` behind what was read as a name, `<:` and a type: where that type is a name, it is the variable's name
abbrev pub second_subtype : ℕ → List ℕ → TypeSoFar → Enclosure → List Frame → Turn
second_subtype a n (Plain b m) l K = at P.Want (Variable (B.Between (plain_type a n) b m) l ∷ K)
second_subtype a n (Whole t) l K = end_of_type (Whole t) (Variable (B.Below a n) l ∷ K)

-- `<:` behind a type of a variable
abbrev pub subtype_in_variable : Bound → TypeSoFar → Enclosure → List Frame → Turn
subtype_in_variable B.First h l K = first_subtype h l K
subtype_in_variable (B.Below a n) h l K = second_subtype a n h l K
subtype_in_variable v h l K = end_of_type h (Variable v l ∷ K)

-- `<:` behind a type
abbrev pub after_subtype : TypeSoFar → List Frame → Turn
after_subtype h (Variable v l ∷ K) = subtype_in_variable v h l K
after_subtype h K = end_of_type h K

-- `>:` behind the first type of a variable, which must be its name
abbrev pub lower_bound : TypeSoFar → Enclosure → List Frame → Turn
lower_bound (Plain a n) l K = at P.Want (Variable (B.Above a n) l ∷ K)
lower_bound (Whole t) l K = end_of_type (Whole t) (Variable B.First l ∷ K)

-- `>:` behind a type
abbrev pub after_supertype : TypeSoFar → List Frame → Turn
after_supertype h (Variable B.First l ∷ K) = lower_bound h l K
after_supertype h K = end_of_type h K

-- a token behind a type
abbrev pub after_type : Terminal → TypeSoFar → List Frame → Turn
after_type (S.Operator op.OpenBrace) h K = open_brace h K
after_type (S.Operator op.CloseBrace) h K = close_brace h K
after_type (S.Operator op.Comma) h K = after_comma h K
after_type (S.Operator op.CloseParen) h K = close_paren h K
after_type (S.Operator op.Subtype) h K = after_subtype h K
after_type (S.Operator op.Supertype) h K = after_supertype h K
after_type (S.Word word.Where) h K = after_where h K
after_type s h K = end_of_type h K

-- a token behind `where`
abbrev pub at_where : Terminal → ℕ → List Frame → Turn
at_where (S.Operator op.OpenBrace) a K = at P.Variable (Variable B.First (Braces no_variables) ∷ K)
at_where s a K = begin_type s a (Variable B.First One ∷ K)

-- a token behind a variable's lower bound and `<:`
abbrev pub at_low : Terminal → ℕ → Deep TypeText → List Frame → Turn
at_low (S.Name n) a t K = at (P.Named t a n) K
at_low s a t K = Wrong

-- `<:` behind a variable's lower bound, `<:` and its name
abbrev pub upper_bound : Deep TypeText → ℕ → List ℕ → List Frame → Turn
upper_bound t a n (Variable v l ∷ K) = at P.Want (Variable (B.Between t a n) l ∷ K)
upper_bound t a n K = Wrong

-- a token behind a variable's lower bound, `<:` and its name
abbrev pub at_named : Terminal → Deep TypeText → ℕ → List ℕ → List Frame → Turn
at_named (S.Operator op.Subtype) t a n K = upper_bound t a n K
at_named s t a n K = Wrong

-- a token that is not of the variables before it
abbrev pub end_of_variables : Deep (List VarText) → List Frame → Turn
end_of_variables vs [] = turn.Variables vs
end_of_variables vs K = Wrong

-- `)` behind the `}` of variables
abbrev pub close_after_variables : Deep (List VarText) → List Frame → Turn
close_after_variables vs (Where a t ∷ K) = at (P.Have (Whole (paren a t vs))) K
close_after_variables vs K = end_of_variables vs K

-- a token behind the `}` of variables
abbrev pub at_closed : Terminal → Deep (List VarText) → List Frame → Turn
at_closed (S.Operator op.CloseParen) vs K = close_after_variables vs K
at_closed s vs K = end_of_variables vs K

-- what a token makes of a state
abbrev pub step_at : Terminal → ℕ → Point → List Frame → Turn
step_at s a P.Want K = begin_type s a K
step_at s a P.Variable K = begin_type s a K
step_at s a P.First K = at_first s a K
step_at s a P.Next K = at_next s a K
step_at s a (P.Have h) K = after_type s h K
step_at s a P.Where K = at_where s a K
step_at s a (P.Low t) K = at_low s a t K
step_at s a (P.Named t b n) K = at_named s t b n K
step_at s a (P.Closed vs) K = at_closed s vs K

-- what a token makes of a reading; one that is over does not go on
abbrev pub step : Lexeme → Turn → Turn
step l (Goes s) = step_at l.terminal l.at s.point s.stack
step l t = Wrong

-- all these tokens, one after another
abbrev pub step_all : List Lexeme → Turn → Turn
step_all [] t = t
step_all (l ∷ ls) t = step_all ls (step l t)

-- the beginning of a type
abbrev pub type_start : Turn
type_start = at P.Want []

-- the beginning of the variables behind a `where`
abbrev pub where_start : Turn
where_start = at P.Where []

-- the beginning of the variables behind the `{` of a declaration
abbrev pub header_start : Turn
header_start = at P.Variable (Variable B.First (Braces no_variables) ∷ [])

-- a type must follow. Where a variable must, its name may, so no type must
abbrev pub is_type_wanted : Point → Bool
is_type_wanted P.Want = true
is_type_wanted P.First = true
is_type_wanted P.Next = true
is_type_wanted p = false

-- no type goes on with this token behind a whole one
abbrev pub is_end_of_type : Terminal → Bool
is_end_of_type (S.Operator op.OpenBrace) = false
is_end_of_type s = true

-- no variables go on with this token behind whole ones
abbrev pub is_end_of_variables : Terminal → Bool
is_end_of_variables (S.Operator op.OpenBrace) = false
is_end_of_variables (S.Operator op.Subtype) = false
is_end_of_variables (S.Operator op.Supertype) = false
is_end_of_variables s = true
