-- What `read` answers.
use Rattle.std.specs.Prelude.{ℕ, Bool, true, false, List, [], ◌∷◌, ◌++◌, ◌≡◌, take, drop, Option, Some, None, Result, Ok, Err}
use Rattle.jl_token.specs.declared.token.Token.{Token}
use Rattle.jl_typeread.specs.declared.terminal.Terminal.TheVariants as S
use Rattle.jl_typeread.specs.Lexemes.{lexemes}
use Rattle.jl_grammar.specs.declared.mark.Marked.{Marked}
use Rattle.jl_grammar.specs.declared.state.Point.{Point}
use Rattle.jl_grammar.specs.declared.state.Reading.{Reading}
use Rattle.jl_grammar.specs.declared.state.State.{State}
use Rattle.jl_grammar.specs.declared.tree.Script.{Script}
use Rattle.jl_grammar.specs.Grammar.{ScriptText}
use Rattle.jl_grammar.specs.Machine.{start, step, step_all, is_type_wanted}
use Rattle.jl_grammar.specs.Reads.{IsWrong, NoneDeep, IsTooDeep, first_at, text}
use Rattle.jl_grammar.specs.Texts.{Text, Spot, tok, NoEnd}
use Rattle.jl_reader.specs.declared.fault.SyntaxFault.{SyntaxFault}
use Rattle.jl_reader.specs.declared.fault.SyntaxFault.TheVariants.{Syntax, BadType, TooDeep, Memory}

-- a type must stand where this reading is
abbrev pub is_type_wanted_at : Option State → Bool
is_type_wanted_at None = false
is_type_wanted_at (Some s) = is_type_wanted s.point

-- a type must stand behind the first n tokens
abbrev pub is_type_wanted_after : Text → ℕ → Bool
is_type_wanted_after ts n = is_type_wanted_at (step_all (take n ts) start)

-- the first wrong token, or the source's end, stands here, no item that ended before it is too deep, and a type must stand
-- there or not
abbrev pub IsFault : Text → ℕ → Bool → ℕ → Type 0
IsFault ts end is_type a = (n : ℕ) × IsWrong ts n × NoneDeep ts n × (is_type_wanted_after ts n ≡ is_type) × (a ≡ first_at (drop n ts) end)

-- what these tokens, with the source's end at this place, are answered by
abbrev pub Answers : Text → ℕ → Result Script SyntaxFault → Type 0
Answers ts end (Ok s) = ScriptText (record { items = s.items; too_deep = None }) ts
Answers ts end (Err (Syntax a)) = IsFault ts end false a
Answers ts end (Err (BadType a)) = IsFault ts end true a
Answers ts end (Err (TooDeep a)) = IsTooDeep ts a
Answers ts end (Err Memory) = ⊥

-- the same of the tokens of a source, which the grammar sees without the newlines that are no tokens, with their marks, and
-- without the source's end
abbrev pub Reads : List Token → Result Script SyntaxFault → Type 0
Reads tokens r = (ts : Text) × (end : Spot) × (text (lexemes tokens) ≡ ts ++ tok S.End end ∷ []) × NoEnd ts × Answers ts end.at r

-- the fact holds of what a function returned, unless memory ran out
abbrev pub UnlessMemory : {A : Type 0} → Result A SyntaxFault → (Result A SyntaxFault → Type 0) → Type 0
UnlessMemory (Err Memory) P = Unit {0}
UnlessMemory r P = P r

-- nothing else that the tokens are answered by is left: what a function returned is all of it, unless memory ran out
abbrev pub IsOnly : {A : Type 0} → Result A SyntaxFault → (Result A SyntaxFault → Type 0) → Type 0
IsOnly {A} result P = (r : Result A SyntaxFault) → P r → UnlessMemory result (λ given. given ≡ r)

-- ---- of the loop

-- the fault of a wrong token at this place
abbrev pub wrong_token : Bool → ℕ → SyntaxFault
wrong_token true a = BadType a
wrong_token false a = Syntax a

-- one token: what comes of it, or what ends the reading at it
abbrev pub Took : Marked → State → Result State SyntaxFault → Type 0
Took t s (Ok r) = (step t (Some s) ≡ Some r) × (r.script.too_deep ≡ None)
Took t s (Err (TooDeep a)) = (r : State) × (step t (Some s) ≡ Some r) × (r.script.too_deep ≡ Some a)
Took t s (Err (Syntax a)) = (step t (Some s) ≡ None) × (Syntax a ≡ wrong_token (is_type_wanted s.point) t.lexeme.at)
Took t s (Err (BadType a)) = (step t (Some s) ≡ None) × (BadType a ≡ wrong_token (is_type_wanted s.point) t.lexeme.at)
Took t s (Err Memory) = Unit {0}

-- the state that is this point with the rest of the reading
abbrev pub state_of : Point → Reading → State
state_of p r = record { point = p; stack = r.stack; script = r.script }

-- the same of a reading that is changed where it is, first so and then so
abbrev pub TookAt : Marked → Point → Reading → Reading → Result Point SyntaxFault → Type 0
TookAt t p before after (Ok q) = Took t (state_of p before) (Ok (state_of q after))
TookAt t p before after (Err e) = Took t (state_of p before) (Err e)
