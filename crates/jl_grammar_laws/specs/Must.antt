-- Where a type must be written, by the grammar alone: no point of the machine that reads it is named.
use Rattle.std.specs.Prelude.{ℕ, List, [], ◌∷◌, ◌++◌, ◌≡◌, ◌⊎◌}
use Rattle.jl_token.specs.declared.token.Operator.TheVariants as o
use Rattle.jl_typeread.specs.declared.terminal.Lexeme.{Lexeme}
use Rattle.jl_typeread.specs.declared.terminal.Terminal.TheVariants as S
use Rattle.jl_typeread.specs.declared.tree.ArgText.{ArgText}
use Rattle.jl_typeread.specs.declared.tree.TypeText.{TypeText}
use Rattle.jl_typeread.specs.Grammar.{IsArgument}
use Rattle.jl_grammar.specs.declared.mark.Marked.{Marked}
use Rattle.jl_grammar.specs.Reads.{Begins}
use Rattle.jl_grammar.specs.Texts.{Text, Spot, opr, nam}
use Rattle.jl_grammar.specs.Types.{IsType}

-- the first token of an argument of a type: of a type, or `<:` or `>:` before one
abbrev pub BeginsArgument : Lexeme → Type 0
BeginsArgument l = (x : ArgText) × (ls : List Lexeme) × IsArgument x (l ∷ ls)

-- the same, or the `}` of braces without arguments
abbrev pub IsFirst : Lexeme → Type 0
IsFirst l = BeginsArgument l ⊎ (l.terminal ≡ S.Operator o.CloseBrace)

-- Behind these tokens a type must stand.
pub record TypeMust (ts : Text) : Type 0 where
  -- some script goes on with each type
  pub each : (t : TypeText) (us : Text) → IsType t us → Begins (ts ++ us)
  -- and none with a token that begins no type, and no argument of one
  pub only : (t : Marked) → Begins (ts ++ t ∷ []) → IsFirst t.lexeme
  -- and none with a variable, which could be a name and its lower bound
  pub no_variable : (n : List ℕ) (p q : Spot) → Begins (ts ++ nam n p ∷ opr o.Supertype q ∷ []) → ⊥
