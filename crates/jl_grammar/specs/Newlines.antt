-- The newlines that are no tokens: between brackets, unless a block was opened in them that is not yet ended, and behind a
-- binary operator, `,`, `=`, `?`, `<:`, `>:` and the `:` of a conditional.
use Rattle.std.specs.Prelude.{Bool, true, false, not, if◌then◌else◌, List, [], ◌∷◌, ◌++◌}
use Rattle.jl_token.specs.declared.token.Operator.{Operator}
use Rattle.jl_token.specs.declared.token.Operator.TheVariants as op
use Rattle.jl_typeread.specs.declared.terminal.Lexeme.{Lexeme}
use Rattle.jl_typeread.specs.declared.terminal.Terminal.{Terminal}
use Rattle.jl_typeread.specs.declared.terminal.Terminal.TheVariants as S
use Rattle.jl_typeread.specs.declared.terminal.Word.{Word}
use Rattle.jl_typeread.specs.declared.terminal.Word.TheVariants as word
use Rattle.jl_grammar.specs.declared.mark.Around.{Around}
use Rattle.jl_grammar.specs.declared.mark.Around.TheVariants.{Bracket, Block}
use Rattle.jl_grammar.specs.declared.mark.Previous.{Previous}
use Rattle.jl_grammar.specs.declared.mark.Previous.TheVariants.{Joins, Ends, Dot, Other}

-- one form less is open
abbrev pub close_form : List Around → List Around
close_form [] = []
close_form (a ∷ ns) = ns

abbrev pub around_after_operator : Operator → List Around → List Around
around_after_operator op.OpenParen ns = Bracket ∷ ns
around_after_operator op.OpenBracket ns = Bracket ∷ ns
around_after_operator op.OpenBrace ns = Bracket ∷ ns
around_after_operator op.CloseParen ns = close_form ns
around_after_operator op.CloseBracket ns = close_form ns
around_after_operator op.CloseBrace ns = close_form ns
around_after_operator _ ns = ns

abbrev pub around_after_word : Word → List Around → List Around
around_after_word word.Function ns = Block ∷ ns
around_after_word word.Struct ns = Block ∷ ns
around_after_word word.If ns = Block ∷ ns
around_after_word word.Begin ns = Block ∷ ns
around_after_word word.Quote ns = Block ∷ ns
around_after_word word.End ns = close_form ns
around_after_word _ ns = ns

-- what is open behind a token, the innermost first
abbrev pub around_after : Terminal → List Around → List Around
around_after (S.Operator o) ns = around_after_operator o ns
around_after (S.Word w) ns = around_after_word w ns
around_after _ ns = ns

-- an operator is binary behind the last token of an operand
abbrev pub previous_after_binary : Previous → Previous
previous_after_binary Ends = Joins
previous_after_binary _ = Other

-- a `:` is that of a conditional, but behind `.`
abbrev pub previous_after_colon : Previous → Previous
previous_after_colon Dot = Other
previous_after_colon _ = Joins

abbrev pub previous_after_operator : Operator → Previous → Previous
previous_after_operator op.Comma p = Joins
previous_after_operator op.Assign p = Joins
previous_after_operator op.Question p = Joins
previous_after_operator op.Subtype p = Joins
previous_after_operator op.Supertype p = Joins
previous_after_operator op.Colon p = previous_after_colon p
previous_after_operator op.Dot p = Dot
previous_after_operator op.CloseParen p = Ends
previous_after_operator op.CloseBracket p = Ends
previous_after_operator op.CloseBrace p = Ends
previous_after_operator op.OpenParen p = Other
previous_after_operator op.OpenBracket p = Other
previous_after_operator op.OpenBrace p = Other
previous_after_operator op.HasType p = Other
previous_after_operator op.Not p = Other
previous_after_operator op.Semicolon p = Other
previous_after_operator _ p = previous_after_binary p

abbrev pub previous_after_word : Word → Previous → Previous
previous_after_word word.Isa p = previous_after_binary p
previous_after_word word.End p = Ends
previous_after_word word.True p = Ends
previous_after_word word.False p = Ends
previous_after_word word.Nothing p = Ends
previous_after_word _ p = Other

-- the innermost form that is open is a bracket
abbrev pub in_bracket : List Around → Bool
in_bracket [] = false
in_bracket (Bracket ∷ ns) = true
in_bracket (Block ∷ ns) = false

-- a newline here is no token
abbrev pub is_dropped : List Around → Previous → Bool
is_dropped ns Joins = true
is_dropped ns p = in_bracket ns

-- what the next token stands behind
abbrev pub previous_after : Terminal → List Around → Previous → Previous
previous_after (S.Operator o) ns p = previous_after_operator o p
previous_after (S.Word w) ns p = previous_after_word w p
previous_after (S.Name n) ns p = Ends
previous_after (S.Number n) ns p = Ends
previous_after (S.Text t) ns p = Ends
previous_after (S.Macro n) ns p = Other
previous_after S.Newline ns p = if is_dropped ns p then p else Other
previous_after S.End ns p = Other

-- the grammar sees this token
abbrev pub is_shown : Terminal → List Around → Previous → Bool
is_shown S.Newline ns p = not (is_dropped ns p)
is_shown _ ns p = true

-- what of a token the grammar sees
abbrev pub show : Lexeme → List Around → Previous → List Lexeme
show l ns p = if is_shown l.terminal ns p then l ∷ [] else []

-- the tokens that the grammar sees
abbrev pub drop_newlines_from : List Around → Previous → List Lexeme → List Lexeme
drop_newlines_from ns p [] = []
drop_newlines_from ns p (l ∷ ls) = show l ns p ++ drop_newlines_from (around_after l.terminal ns) (previous_after l.terminal ns p) ls

abbrev pub drop_newlines : List Lexeme → List Lexeme
drop_newlines = drop_newlines_from [] Other
