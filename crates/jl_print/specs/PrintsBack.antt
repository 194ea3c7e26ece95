-- What `print` promises: its text reads back as the same script, places aside.
use Rattle.std.specs.Prelude.{ℕ, List, [], ◌∷◌, ◌++◌, ◌≡◌, None, Ok}
use Rattle.jl_token.specs.declared.token.Token.{Token}
use Rattle.jl_token.specs.Grammar.{ReadsSource}
use Rattle.jl_typeread.specs.declared.terminal.Terminal.TheVariants as S
use Rattle.jl_typeread.specs.Lexemes.{lexemes}
use Rattle.jl_grammar.specs.Grammar.{ScriptText}
use Rattle.jl_grammar.specs.Reads.{text}
use Rattle.jl_grammar.specs.Texts.{Text, Spot, tok}
use Rattle.jl_grammar.specs.declared.tree.Script.{Script}
use Rattle.jl_print.specs.Placeless.{placeless}

-- the source has tokens, and these, as the grammar sees them, are this script, of which no item is too deep
pub record IsSource (source : List ℕ) (s : Script) : Type 0 where
  pub tokens : List Token
  pub has_tokens : ReadsSource source (Ok tokens)
  pub front : Text
  pub end : Spot
  pub seen : text (lexemes tokens) ≡ front ++ tok S.End end ∷ []
  pub is_script : ScriptText (record { items = s.items; too_deep = None }) front

-- the source of a script that is this one, places aside
abbrev pub ReadsBack : List ℕ → Script → Type 0
ReadsBack source s = (t : Script) × IsSource source t × (placeless t ≡ placeless s)
