-- The marks that choose between the rules. They look ahead, and are a function of the tokens alone.
use Rattle.std.specs.Prelude.{ℕ, Bool, true, false, ◌&&◌, ◌||◌, if◌then◌else◌, codes, bytes_eq, List, [], ◌∷◌, map, Option, Some, None}
use Rattle.jl_token.specs.declared.token.Operator.{Operator}
use Rattle.jl_token.specs.declared.token.Operator.TheVariants as op
use Rattle.jl_typeread.specs.declared.terminal.Lexeme.{Lexeme}
use Rattle.jl_typeread.specs.declared.terminal.Terminal.{Terminal}
use Rattle.jl_typeread.specs.declared.terminal.Terminal.TheVariants as S
use Rattle.jl_typeread.specs.declared.terminal.Word.{Word}
use Rattle.jl_typeread.specs.declared.terminal.Word.TheVariants as word
use Rattle.jl_grammar.specs.declared.mark.Ahead.{Ahead}
use Rattle.jl_grammar.specs.declared.mark.Ahead.TheVariants as A
use Rattle.jl_grammar.specs.declared.mark.NextToken.{NextToken}
use Rattle.jl_grammar.specs.declared.mark.NextToken.TheVariants as F
use Rattle.jl_grammar.specs.declared.mark.Named.{Named}
use Rattle.jl_grammar.specs.declared.mark.Named.TheVariants as D
use Rattle.jl_grammar.specs.declared.mark.Opening.{Opening}
use Rattle.jl_grammar.specs.declared.mark.Opening.TheVariants as O
use Rattle.jl_grammar.specs.declared.mark.Marks.{Marks}
use Rattle.jl_grammar.specs.declared.mark.Marked.{Marked}
use Rattle.jl_grammar.specs.declared.mark.Mate.{Mate}
use Rattle.jl_grammar.specs.declared.mark.Mate.TheVariants.{Opens, Closes, Neither}
use Rattle.jl_grammar.specs.declared.mark.Shape.{Shape}
use Rattle.jl_grammar.specs.declared.mark.Shape.TheVariants.{Round, Square, Curly}

-- ---- matching brackets

-- what a token is to the brackets
abbrev pub mate_of : Operator → Mate
mate_of op.OpenParen = Opens Round
mate_of op.OpenBracket = Opens Square
mate_of op.OpenBrace = Opens Curly
mate_of op.CloseParen = Closes Round
mate_of op.CloseBracket = Closes Square
mate_of op.CloseBrace = Closes Curly
mate_of _ = Neither

abbrev pub mate : Terminal → Mate
mate (S.Operator o) = mate_of o
mate _ = Neither

abbrev pub is_same_shape : Shape → Shape → Bool
is_same_shape Round Round = true
is_same_shape Square Square = true
is_same_shape Curly Curly = true
is_same_shape _ _ = false

abbrev pub step_bracket : Mate → (List Shape → Option (List Terminal)) → Shape → List Shape → Option (List Terminal)
step_bracket (Opens s) go c cs = go (s ∷ c ∷ cs)
step_bracket (Closes s) go c cs = if is_same_shape s c then go cs else None
step_bracket Neither go c cs = go (c ∷ cs)

-- what follows the brackets that end these open ones, the innermost first; none where another bracket comes first
abbrev pub rest_after : List Terminal → List Shape → Option (List Terminal)
rest_after ss [] = Some ss
rest_after [] (c ∷ cs) = None
rest_after (s ∷ ss) (c ∷ cs) = step_bracket (mate s) (rest_after ss) c cs

-- what follows the brackets that begin here
abbrev pub over_paren : Operator → List Terminal → Option (List Terminal)
over_paren op.OpenParen ss = rest_after ss (Round ∷ [])
over_paren _ ss = None

abbrev pub round : List Terminal → Option (List Terminal)
round (S.Operator o ∷ ss) = over_paren o ss
round _ = None

abbrev pub over_brace : Operator → List Terminal → Option (List Terminal)
over_brace op.OpenBrace ss = rest_after ss (Curly ∷ [])
over_brace _ ss = None

abbrev pub curly : List Terminal → Option (List Terminal)
curly (S.Operator o ∷ ss) = over_brace o ss
curly _ = None

-- ---- what follows: `=` or `where`, `<:`, or anything else

abbrev pub next_as_operator : Operator → NextToken
next_as_operator op.Assign = F.Defines
next_as_operator op.Subtype = F.Compares
next_as_operator _ = F.Other

abbrev pub next_as_word : Word → NextToken
next_as_word word.Where = F.Defines
next_as_word _ = F.Other

abbrev pub next_as_terminal : Terminal → NextToken
next_as_terminal (S.Operator o) = next_as_operator o
next_as_terminal (S.Word w) = next_as_word w
next_as_terminal _ = F.Other

abbrev pub next_of : List Terminal → NextToken
next_of [] = F.Other
next_of (s ∷ ss) = next_as_terminal s

abbrev pub next_after : Option (List Terminal) → NextToken
next_after None = F.Other
next_after (Some ss) = next_of ss

abbrev pub is_definition : NextToken → Bool
is_definition F.Defines = true
is_definition _ = false

abbrev pub is_subtype : NextToken → Bool
is_subtype F.Compares = true
is_subtype _ = false

-- ---- methods and comparisons of types

-- the operators that a method can be added to
abbrev pub is_function : Operator → Bool
is_function op.Plus = true
is_function op.Minus = true
is_function op.Times = true
is_function op.Divide = true
is_function op.Remainder = true
is_function op.Equal = true
is_function op.NotEqual = true
is_function op.Less = true
is_function op.LessEqual = true
is_function op.Greater = true
is_function op.GreaterEqual = true
is_function op.Not = true
is_function _ = false

abbrev pub is_base : List ℕ → Bool
is_base n = bytes_eq n (codes "Base")

-- what follows the parameters, behind `Base.:`
abbrev pub colon_head : List Terminal → Option (List Terminal)
colon_head (S.Operator o ∷ ss) = if is_function o then round ss else None
colon_head _ = None

-- what follows the parameters, behind `Base.`
abbrev pub dot_head_operator : Operator → List Terminal → Option (List Terminal)
dot_head_operator op.Colon ss = colon_head ss
dot_head_operator _ ss = None

abbrev pub dot_head : List Terminal → Option (List Terminal)
dot_head (S.Name n ∷ ss) = round ss
dot_head (S.Operator o ∷ ss) = dot_head_operator o ss
dot_head _ = None

-- what follows the parameters, behind `Base`
abbrev pub base_head_operator : Operator → List Terminal → Option (List Terminal)
base_head_operator op.Dot ss = dot_head ss
base_head_operator _ ss = None

abbrev pub base_head : List Terminal → Option (List Terminal)
base_head (S.Operator o ∷ ss) = base_head_operator o ss
base_head _ = None

-- the head of a method begins here: a function's name, its parameters in brackets, and `=` or `where` behind them
abbrev pub is_head_start : List Terminal → Bool
is_head_start (S.Name n ∷ ss) = is_definition (next_after (round ss)) || (is_base n && is_definition (next_after (base_head ss)))
is_head_start _ = false

-- the left type of a comparison begins here: a name, a name with its braces, or brackets, and `<:` behind them
abbrev pub is_left_start : List Terminal → Bool
is_left_start (S.Name n ∷ ss) = is_subtype (next_of ss) || is_subtype (next_after (curly ss))
is_left_start ss = is_subtype (next_after (round ss))

abbrev pub ahead : List Terminal → Ahead
ahead ss = if is_head_start ss then A.Method else if is_left_start ss then A.Sub else A.Nothing

-- ---- the first words of the special forms

abbrev pub named_call : List ℕ → Opening
named_call n =
    if bytes_eq n (codes "eval") then O.Quote
    else if bytes_eq n (codes "fetch") then O.Fetch
    else if bytes_eq n (codes "println") then O.Println
    else if bytes_eq n (codes "print") then O.Print
    else O.Call

-- `(` follows
abbrev pub is_paren : Operator → Bool
is_paren op.OpenParen = true
is_paren _ = false

abbrev pub is_call : List Terminal → Bool
is_call (S.Operator o ∷ ss) = is_paren o
is_call _ = false

-- behind `Base.` and a name
abbrev pub base_call : Bool → List ℕ → Opening
base_call true n =
    if bytes_eq n (codes "invokelatest") then O.Latest
    else if bytes_eq n (codes "delete_method") then O.Delete
    else O.Call
base_call false n = O.Plain

abbrev pub base_operator : Operator → Opening
base_operator op.Colon = O.Call
base_operator _ = O.Plain

-- behind `Base.`
abbrev pub base_opening : List Terminal → Opening
base_opening (S.Name n ∷ ss) = base_call (is_call ss) n
base_opening (S.Operator o ∷ ss) = base_operator o
base_opening _ = O.Plain

-- behind `Threads.`
abbrev pub threads_opening : List Terminal → Opening
threads_opening (S.Macro n ∷ ss) = if bytes_eq n (codes "spawn") then O.Spawn else O.Plain
threads_opening _ = O.Plain

-- what stands behind a name
abbrev pub after_name_operator : Operator → List Terminal → Named
after_name_operator op.OpenParen ss = D.Called
after_name_operator op.OpenBrace ss = D.Makes
after_name_operator op.Assign ss = D.Binds
after_name_operator op.Dot ss = D.Dotted (base_opening ss) (threads_opening ss)
after_name_operator _ ss = D.Alone

abbrev pub after_name : List Terminal → Named
after_name (S.Operator o ∷ ss) = after_name_operator o ss
after_name _ = D.Alone

-- what a name begins, by what stands behind it
abbrev pub opening_of : Named → List ℕ → Opening
opening_of D.Called n = named_call n
opening_of D.Makes n = O.Make
opening_of D.Binds n = O.Binding
opening_of (D.Dotted x y) n = if is_base n then x else if bytes_eq n (codes "Threads") then y else O.Plain
opening_of D.Alone n = O.Plain

abbrev pub opening : List Terminal → Opening
opening (S.Name n ∷ ss) = opening_of (after_name ss) n
opening _ = O.Plain

abbrev pub marks_of : List Terminal → Marks
marks_of ss = record { opening = opening ss; ahead = ahead ss }

abbrev pub terminals : List Lexeme → List Terminal
terminals = map (λ l. l.terminal)

-- the tokens with their marks
abbrev pub with_marks : List Lexeme → List Marked
with_marks [] = []
with_marks (l ∷ ls) = record { lexeme = l; marks = marks_of (l.terminal ∷ terminals ls) } ∷ with_marks ls
