-- What is wrong with tokens: the first wrong one, and the first item that is too deep.
use Rattle.std.specs.Prelude.{ℕ, ◌+◌, ◌<◌, ◌≤◌, List, [], ◌∷◌, ◌++◌, ◌≡◌, ◌⊎◌, take, length, Option, Some, None}
use Rattle.jl_typeread.specs.declared.terminal.Lexeme.{Lexeme}
use Rattle.jl_grammar.specs.declared.mark.Marked.{Marked}
use Rattle.jl_grammar.specs.declared.state.ItemsRead.{ItemsRead}
use Rattle.jl_grammar.specs.Grammar.{ItemsBefore, ScriptText}
use Rattle.jl_grammar.specs.Marks.{with_marks}
use Rattle.jl_grammar.specs.Newlines.{drop_newlines}
use Rattle.jl_grammar.specs.Texts.{Text}

-- some script begins with these tokens
abbrev pub Begins : Text → Type 0
Begins ts = (xs : ItemsRead) × (more : Text) × ScriptText xs (ts ++ more)

-- The first n tokens begin a script. With the token after them none does; at the end they are none themselves.
pub record IsWrong (ts : Text) (n : ℕ) : Type 0 where
  pub within : n ≤ length ts
  pub begins : Begins (take n ts)
  pub token : n < length ts → Begins (take (n + 1) ts) → ⊥
  pub end : n ≡ length ts → (xs : ItemsRead) → ScriptText xs ts → ⊥

-- no item that has ended within the first n tokens is too deep
abbrev pub NoneDeep : Text → ℕ → Type 0
NoneDeep ts n = (k : ℕ) (xs : ItemsRead) → k ≤ n → ItemsBefore xs (take k ts) → xs.too_deep ≡ None

-- the first item that is too deep stands here, and all up to the separator behind it, or the end, is right
abbrev pub IsTooDeep : Text → ℕ → Type 0
IsTooDeep ts a =
    ((n : ℕ) × (xs : ItemsRead) × ItemsBefore xs (take n ts) × (xs.too_deep ≡ Some a))
    ⊎ ((xs : ItemsRead) × ScriptText xs ts × (xs.too_deep ≡ Some a))

-- the place of the first token, or that of the source's end
abbrev pub first_at : Text → ℕ → ℕ
first_at [] e = e
first_at (t ∷ ts) e = t.lexeme.at

-- the tokens of a text as the grammar sees them
abbrev pub text : List Lexeme → Text
text ls = with_marks (drop_newlines ls)
