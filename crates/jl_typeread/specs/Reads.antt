-- What reading a type answers. Between the brackets of a type a newline is no token.
use Rattle.std.specs.Prelude.{◌≡◌, ℕ, zero, suc, ◌+◌, ◌-◌, ◌≤◌, ◌<◌, Bool, true, false, if◌then◌else◌, List, [], ◌∷◌, ◌++◌, length, Option, Some, None, Result, Ok, Err}
use Rattle.jl_token.specs.declared.token.Operator.TheVariants as op
use Rattle.jl_token.specs.declared.token.Token.{Token}
use Rattle.jl_token.specs.declared.token.TokenKind.TheVariants as kind
use Rattle.jl_typeread.specs.declared.terminal.Terminal.{Terminal}
use Rattle.jl_typeread.specs.declared.terminal.Terminal.TheVariants as S
use Rattle.jl_typeread.specs.declared.terminal.Lexeme.{Lexeme}
use Rattle.jl_typeread.specs.declared.tree.TypeText.{TypeText}
use Rattle.jl_typeread.specs.declared.deep.Deep.TheVariants.{Built, TooDeep}
use Rattle.jl_typeread.specs.declared.state.State.{State}
use Rattle.jl_typeread.specs.declared.state.Turn.{Turn}
use Rattle.jl_typeread.specs.declared.state.Turn.TheVariants as turn
use Rattle.jl_typeread.specs.declared.fault.TypeFault.{TypeFault}
use Rattle.jl_typeread.specs.declared.fault.TypeFault.TheVariants as fault
use Rattle.jl_typeread.specs.Depth.{type_depth, depth_limit}
use Rattle.jl_typeread.specs.Grammar.{IsType}
use Rattle.jl_typeread.specs.Machine.{step_all}

-- how many brackets are open behind a token
abbrev pub depth_after : ℕ → Terminal → ℕ
depth_after n (S.Operator op.OpenParen) = n + 1
depth_after n (S.Operator op.OpenBrace) = n + 1
depth_after n (S.Operator op.CloseParen) = n - 1
depth_after n (S.Operator op.CloseBrace) = n - 1
depth_after n s = n

-- the token is a newline between brackets
abbrev pub is_passed : ℕ → Terminal → Bool
is_passed zero s = false
is_passed (suc n) S.Newline = true
is_passed (suc n) s = false

-- what of a token the grammar sees
abbrev pub show : ℕ → Lexeme → List Lexeme
show n l = if is_passed n l.terminal then [] else l ∷ []

-- what of a text the grammar sees, where so many brackets are open before it
abbrev pub drop_newlines : ℕ → List Lexeme → List Lexeme
drop_newlines n [] = []
drop_newlines n (l ∷ ls) = show n l ++ drop_newlines (depth_after n l.terminal) ls

-- how many brackets are open behind a text
abbrev pub depth_after_all : ℕ → List Lexeme → ℕ
depth_after_all n [] = n
depth_after_all n (l ∷ ls) = depth_after_all (depth_after n l.terminal) ls

-- the text is this type, newlines between its brackets aside
abbrev pub Spells : TypeText → List Lexeme → Type 0
Spells t ls = IsType t (drop_newlines 0 ls)

-- some type begins with this text
abbrev pub Begins : List Lexeme → Type 0
Begins ls = (t : TypeText) × (more : List Lexeme) × Spells t (ls ++ more)

-- the longest text at the front that some type begins with, and the token behind it
pub record IsLongest (ls front : List Lexeme) (behind : Lexeme) : Type 0 where
  pub rest : List Lexeme
  pub split : ls ≡ front ++ behind ∷ rest
  pub begins : Begins front
  pub stops : Begins (front ++ behind ∷ []) → ⊥

-- what the text from a place on reads as. The longest text at its front that some type begins with is a type that is not
-- too deep, or one that is, or none: then the token behind it is the first that no type allows
abbrev pub Reads : List Lexeme → ℕ → Result (TypeText × ℕ) TypeFault → Type 0
Reads ls from (Ok r) = (front : List Lexeme) × (behind : Lexeme) × IsLongest ls front behind × Spells r.0 front × (type_depth r.0 ≤ depth_limit) × (r.1 ≡ from + length front)
Reads ls from (Err (fault.TooDeep next)) = (t : TypeText) × (front : List Lexeme) × (behind : Lexeme) × IsLongest ls front behind × Spells t front × (depth_limit < type_depth t) × (next ≡ from + length front)
Reads ls from (Err (fault.BadType place)) = (front : List Lexeme) × (behind : Lexeme) × IsLongest ls front behind × ((t : TypeText) → Spells t front → ⊥) × (place ≡ behind.at)
Reads ls from (Err fault.Memory) = ⊥

-- the fact holds of what a function returned, unless memory ran out
abbrev pub UnlessMemory : {A : Type 0} → Result A TypeFault → (Result A TypeFault → Type 0) → Type 0
UnlessMemory (Err fault.Memory) P = Unit {0}
UnlessMemory r P = P r

-- nothing else that a text reads as is left: what a function returned is all of it, unless memory ran out
abbrev pub IsOnly : {A : Type 0} → Result A TypeFault → (Result A TypeFault → Type 0) → Type 0
IsOnly {A} result P = (r : Result A TypeFault) → P r → UnlessMemory result (λ given. given ≡ r)

-- the last token, and no other, is the end of the source
abbrev pub EndsAlone : List Token → Type 0
EndsAlone [] = ⊥
EndsAlone (t ∷ []) = t.kind ≡ kind.End
EndsAlone (t ∷ u ∷ ts) = (t.kind ≡ kind.End → ⊥) × EndsAlone (u ∷ ts)

-- ---- of the loop

-- one token: what ends the reading, or what comes of it
abbrev pub Took : ℕ → Lexeme → State → State → ℕ → Option Turn → Type 0
Took n l s s1 n1 None = (step_all (show n l) (turn.Goes s) ≡ turn.Goes s1) × (n1 ≡ depth_after n l.terminal)
Took n l s s1 n1 (Some (turn.Goes x)) = ⊥
Took n l s s1 n1 (Some t) = step_all (show n l) (turn.Goes s) ≡ t

-- the answer at a token that ends the reading, of this place, with this many tokens before it
abbrev pub final_answer : Turn → ℕ → ℕ → Result (TypeText × ℕ) TypeFault
final_answer (turn.Type (Built t d)) place next = Ok (t, next)
final_answer (turn.Type TooDeep) place next = Err (fault.TooDeep next)
final_answer t place next = Err (fault.BadType place)
