-- Where a type must be read, the variable that it stands in has its name: no token leads to a type that could still be the name.
use Rattle.std.proofs.Common.{ℕ, List, [], ◌∷◌, Option, Some, None}
use Rattle.jl_token.specs.declared.token.Operator.TheVariants as op
use Rattle.jl_typeread.specs.declared.deep.Deep.{Deep}
use Rattle.jl_typeread.specs.declared.deep.Mark.{Mark}
use Rattle.jl_typeread.specs.declared.deep.Mark.TheVariants as mark
use Rattle.jl_typeread.specs.declared.terminal.Terminal.{Terminal}
use Rattle.jl_typeread.specs.declared.terminal.Terminal.TheVariants as S
use Rattle.jl_typeread.specs.declared.terminal.Word.TheVariants as word
use Rattle.jl_typeread.specs.declared.state.TypeSoFar.{TypeSoFar}
use Rattle.jl_typeread.specs.declared.state.TypeSoFar.TheVariants.{Plain, Whole}
use Rattle.jl_typeread.specs.declared.state.Bound.{Bound}
use Rattle.jl_typeread.specs.declared.state.Bound.TheVariants as B
use Rattle.jl_typeread.specs.declared.state.Frame.{Frame}
use Rattle.jl_typeread.specs.declared.state.Frame.TheVariants.{Argument, Paren, Where, Variable}
use Rattle.jl_typeread.specs.declared.state.Enclosure.{Enclosure}
use Rattle.jl_typeread.specs.declared.state.Enclosure.TheVariants.{One, Braces}
use Rattle.jl_typeread.specs.declared.state.Point.{Point}
use Rattle.jl_typeread.specs.declared.state.Point.TheVariants as P
use Rattle.jl_typeread.specs.declared.tree.TypeText.{TypeText}
use Rattle.jl_typeread.specs.declared.tree.VarText.{VarText}
use Rattle.jl_typeread.specs.Machine as Y
use Rattle.jl_typeread.specs.Machine.{variable}
use Rattle.jl_typeread.specs.declared.state.Turn.{Turn}
use Rattle.jl_typeread.specs.declared.state.Turn.TheVariants.{Goes}

-- the innermost form is no variable without a name
abbrev pub IsNamed : List Frame → Type 0
IsNamed (Variable B.First l ∷ K) = ⊥
IsNamed K = Unit {0}

abbrev pub SettledAt : Point → List Frame → Type 0
SettledAt P.Want K = IsNamed K
SettledAt P.First K = IsNamed K
SettledAt P.Next K = IsNamed K
SettledAt p K = Unit {0}

abbrev pub SettledTurn : Turn → Type 0
SettledTurn (Goes y) = SettledAt y.point y.stack
SettledTurn o = Unit {0}

-- ---- of each token, line by line as the machine reads it

settled_begin_type : (x0 : Terminal) (x1 : ℕ) (x2 : List Frame) → SettledTurn (Y.begin_type x0 x1 x2)
settled_begin_type (S.Name n) a K = tt
settled_begin_type (S.Operator op.OpenParen) a K = tt
settled_begin_type s a K = tt

settled_after_mark : (x0 : Mark) (x1 : List Frame) → SettledTurn (Y.after_mark x0 x1)
settled_after_mark m (Argument a n xs other ∷ K) = tt
settled_after_mark m K = tt

settled_at_next : (x0 : Terminal) (x1 : ℕ) (x2 : List Frame) → SettledTurn (Y.at_next x0 x1 x2)
settled_at_next (S.Operator op.Subtype) b K = settled_after_mark (mark.Below b) K
settled_at_next (S.Operator op.Supertype) b K = settled_after_mark (mark.Above b) K
settled_at_next s b K = settled_begin_type s b K

settled_close_empty : (x0 : List Frame) → SettledTurn (Y.close_empty x0)
settled_close_empty (Argument a n xs m ∷ K) = tt
settled_close_empty K = tt

settled_at_first : (x0 : Terminal) (x1 : ℕ) (x2 : List Frame) → SettledTurn (Y.at_first x0 x1 x2)
settled_at_first (S.Operator op.CloseBrace) b K = settled_close_empty K
settled_at_first s b K = settled_at_next s b K

settled_end_of_variable : (x0 : Option (Deep VarText)) (x1 : List Frame) → SettledTurn (Y.end_of_variable x0 x1)
settled_end_of_variable (Some v) [] = tt
settled_end_of_variable v K = tt

settled_end_of_type : (x0 : TypeSoFar) (x1 : List Frame) → SettledTurn (Y.end_of_type x0 x1)
settled_end_of_type h [] = tt
settled_end_of_type h (Variable v One ∷ K) = settled_end_of_variable (variable v h) K
settled_end_of_type h K = tt

settled_open_brace : (x0 : TypeSoFar) (x1 : List Frame) → SettledTurn (Y.open_brace x0 x1)
settled_open_brace (Plain a n) K = tt
settled_open_brace (Whole t) K = settled_end_of_type (Whole t) K

settled_close_variables : (x0 : Option (Deep VarText)) (x1 : Deep (List VarText)) (x2 : List Frame) → SettledTurn (Y.close_variables x0 x1 x2)
settled_close_variables (Some v) vs K = tt
settled_close_variables None vs K = tt

settled_close_enclosure : (x0 : Option (Deep VarText)) (x1 : Enclosure) (x2 : List Frame) → SettledTurn (Y.close_enclosure x0 x1 x2)
settled_close_enclosure v One K = settled_end_of_variable v K
settled_close_enclosure v (Braces vs) K = settled_close_variables v vs K

settled_close_brace : (x0 : TypeSoFar) (x1 : List Frame) → SettledTurn (Y.close_brace x0 x1)
settled_close_brace h (Argument a n xs m ∷ K) = tt
settled_close_brace h (Variable v l ∷ K) = settled_close_enclosure (variable v h) l K
settled_close_brace h K = settled_end_of_type h K

settled_next_variable : (x0 : Option (Deep VarText)) (x1 : Deep (List VarText)) (x2 : List Frame) → SettledTurn (Y.next_variable x0 x1 x2)
settled_next_variable (Some v) vs K = tt
settled_next_variable None vs K = tt

settled_next_in_enclosure : (x0 : Option (Deep VarText)) (x1 : Enclosure) (x2 : List Frame) → SettledTurn (Y.next_in_enclosure x0 x1 x2)
settled_next_in_enclosure v One K = settled_end_of_variable v K
settled_next_in_enclosure v (Braces vs) K = settled_next_variable v vs K

settled_after_comma : (x0 : TypeSoFar) (x1 : List Frame) → SettledTurn (Y.after_comma x0 x1)
settled_after_comma h (Argument a n xs m ∷ K) = tt
settled_after_comma h (Variable v l ∷ K) = settled_next_in_enclosure (variable v h) l K
settled_after_comma h K = settled_end_of_type h K

settled_close_where : (x0 : Option (Deep VarText)) (x1 : List Frame) → SettledTurn (Y.close_where x0 x1)
settled_close_where (Some v) (Where a t ∷ K) = tt
settled_close_where v K = settled_end_of_variable v K

settled_close_paren : (x0 : TypeSoFar) (x1 : List Frame) → SettledTurn (Y.close_paren x0 x1)
settled_close_paren h (Paren a ∷ K) = tt
settled_close_paren h (Variable v One ∷ K) = settled_close_where (variable v h) K
settled_close_paren h K = settled_end_of_type h K

settled_after_where : (x0 : TypeSoFar) (x1 : List Frame) → SettledTurn (Y.after_where x0 x1)
settled_after_where h (Paren a ∷ K) = tt
settled_after_where h K = settled_end_of_type h K

settled_first_subtype : (x0 : TypeSoFar) (x1 : Enclosure) (x2 : List Frame) → SettledTurn (Y.first_subtype x0 x1 x2)
settled_first_subtype (Plain a n) l K = tt
settled_first_subtype (Whole t) l K = tt

settled_second_subtype : (x0 : ℕ) (x1 : List ℕ) (x2 : TypeSoFar) (x3 : Enclosure) (x4 : List Frame) → SettledTurn (Y.second_subtype x0 x1 x2 x3 x4)
settled_second_subtype a n (Plain b m) l K = tt
settled_second_subtype a n (Whole t) l K = settled_end_of_type (Whole t) (Variable (B.Below a n) l ∷ K)

settled_subtype_in_variable : (x0 : Bound) (x1 : TypeSoFar) (x2 : Enclosure) (x3 : List Frame) → SettledTurn (Y.subtype_in_variable x0 x1 x2 x3)
settled_subtype_in_variable B.First h l K = settled_first_subtype h l K
settled_subtype_in_variable (B.Below a n) h l K = settled_second_subtype a n h l K
settled_subtype_in_variable v h l K = settled_end_of_type h (Variable v l ∷ K)

settled_after_subtype : (x0 : TypeSoFar) (x1 : List Frame) → SettledTurn (Y.after_subtype x0 x1)
settled_after_subtype h (Variable v l ∷ K) = settled_subtype_in_variable v h l K
settled_after_subtype h K = settled_end_of_type h K

settled_lower_bound : (x0 : TypeSoFar) (x1 : Enclosure) (x2 : List Frame) → SettledTurn (Y.lower_bound x0 x1 x2)
settled_lower_bound (Plain a n) l K = tt
settled_lower_bound (Whole t) l K = settled_end_of_type (Whole t) (Variable B.First l ∷ K)

settled_after_supertype : (x0 : TypeSoFar) (x1 : List Frame) → SettledTurn (Y.after_supertype x0 x1)
settled_after_supertype h (Variable B.First l ∷ K) = settled_lower_bound h l K
settled_after_supertype h K = settled_end_of_type h K

settled_after_type : (x0 : Terminal) (x1 : TypeSoFar) (x2 : List Frame) → SettledTurn (Y.after_type x0 x1 x2)
settled_after_type (S.Operator op.OpenBrace) h K = settled_open_brace h K
settled_after_type (S.Operator op.CloseBrace) h K = settled_close_brace h K
settled_after_type (S.Operator op.Comma) h K = settled_after_comma h K
settled_after_type (S.Operator op.CloseParen) h K = settled_close_paren h K
settled_after_type (S.Operator op.Subtype) h K = settled_after_subtype h K
settled_after_type (S.Operator op.Supertype) h K = settled_after_supertype h K
settled_after_type (S.Word word.Where) h K = settled_after_where h K
settled_after_type s h K = settled_end_of_type h K

settled_at_where : (x0 : Terminal) (x1 : ℕ) (x2 : List Frame) → SettledTurn (Y.at_where x0 x1 x2)
settled_at_where (S.Operator op.OpenBrace) a K = tt
settled_at_where s a K = settled_begin_type s a (Variable B.First One ∷ K)

settled_at_low : (x0 : Terminal) (x1 : ℕ) (x2 : Deep TypeText) (x3 : List Frame) → SettledTurn (Y.at_low x0 x1 x2 x3)
settled_at_low (S.Name n) a t K = tt
settled_at_low s a t K = tt

settled_upper_bound : (x0 : Deep TypeText) (x1 : ℕ) (x2 : List ℕ) (x3 : List Frame) → SettledTurn (Y.upper_bound x0 x1 x2 x3)
settled_upper_bound t a n (Variable v l ∷ K) = tt
settled_upper_bound t a n K = tt

settled_at_named : (x0 : Terminal) (x1 : Deep TypeText) (x2 : ℕ) (x3 : List ℕ) (x4 : List Frame) → SettledTurn (Y.at_named x0 x1 x2 x3 x4)
settled_at_named (S.Operator op.Subtype) t a n K = settled_upper_bound t a n K
settled_at_named s t a n K = tt

settled_end_of_variables : (x0 : Deep (List VarText)) (x1 : List Frame) → SettledTurn (Y.end_of_variables x0 x1)
settled_end_of_variables vs [] = tt
settled_end_of_variables vs K = tt

settled_close_after_variables : (x0 : Deep (List VarText)) (x1 : List Frame) → SettledTurn (Y.close_after_variables x0 x1)
settled_close_after_variables vs (Where a t ∷ K) = tt
settled_close_after_variables vs K = settled_end_of_variables vs K

settled_at_closed : (x0 : Terminal) (x1 : Deep (List VarText)) (x2 : List Frame) → SettledTurn (Y.at_closed x0 x1 x2)
settled_at_closed (S.Operator op.CloseParen) vs K = settled_close_after_variables vs K
settled_at_closed s vs K = settled_end_of_variables vs K

pub settled_step_at : (x0 : Terminal) (x1 : ℕ) (x2 : Point) (x3 : List Frame) → SettledTurn (Y.step_at x0 x1 x2 x3)
settled_step_at s a P.Want K = settled_begin_type s a K
settled_step_at s a P.Variable K = settled_begin_type s a K
settled_step_at s a P.First K = settled_at_first s a K
settled_step_at s a P.Next K = settled_at_next s a K
settled_step_at s a (P.Have h) K = settled_after_type s h K
settled_step_at s a P.Where K = settled_at_where s a K
settled_step_at s a (P.Low t) K = settled_at_low s a t K
settled_step_at s a (P.Named t b n) K = settled_at_named s t b n K
settled_step_at s a (P.Closed vs) K = settled_at_closed s vs K
