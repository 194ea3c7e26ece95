-- The table of a script's sites, spawns and deletions.
use Rattle.std.specs.Prelude.{ℕ, ◌+◌, codes, decimal, List, [], ◌∷◌, ◌++◌, ◌≡◌, Option, Some, None, Result, Ok, Err}
use Rattle.jl_token.specs.declared.token.Token.{Token}
use Rattle.jl_token.specs.declared.token.TokenFault.{TokenFault}
use Rattle.jl_token.specs.Grammar.{ReadsSource}
use Rattle.jl_grammar.specs.declared.tree.Script.{Script}
use Rattle.jl_reader.specs.declared.fault.SyntaxFault.{SyntaxFault}
use Rattle.jl_reader.specs.Answers.{Reads}
use Rattle.jl_sites.specs.declared.place.Function.{Function}
use Rattle.jl_sites.specs.declared.place.Place.{Place}
use Rattle.jl_sites.specs.declared.place.Place.TheVariants as P
use Rattle.jl_sites.specs.declared.spot.Spot.{Spot}
use Rattle.jl_sites.specs.declared.table.TheConstants.{FIRST_SITE}
use Rattle.jl_sites.specs.Places.{function_name, script_places}
use Rattle.jl_sites.specs.Spots.{spot_at, spot_text}

-- the line of a site or of a deletion, with its first word
abbrev pub named_line : List ℕ → ℕ → Function → Spot → List ℕ
named_line word n f s = word ++ (decimal n ++ (codes " " ++ (function_name f ++ spot_text s)))

abbrev pub spawn_line : ℕ → Spot → List ℕ
spawn_line n s = codes "spawn " ++ (decimal n ++ spot_text s)

-- a line for each place of a source, where the next site, the next spawn and the next deletion have these numbers
abbrev pub table : List ℕ → ℕ → ℕ → ℕ → List Place → List ℕ
table bytes site spawn delete [] = []
table bytes site spawn delete (P.Site at f ∷ ps) = named_line (codes "site ") site f (spot_at bytes at) ++ table bytes (site + 1) spawn delete ps
table bytes site spawn delete (P.Spawn at ∷ ps) = spawn_line spawn (spot_at bytes at) ++ table bytes site (spawn + 1) delete ps
table bytes site spawn delete (P.Delete at f ∷ ps) = named_line (codes "delete ") delete f (spot_at bytes at) ++ table bytes site spawn (delete + 1) ps

-- the table of the script that bytes are
abbrev pub script_table : List ℕ → Script → List ℕ
script_table bytes s = table bytes FIRST_SITE 0 0 (script_places s)

-- the bytes are this script
abbrev pub AreScript : List ℕ → Script → Type 0
AreScript bytes s = (ts : List Token) × ReadsSource bytes (Ok ts) × Reads ts (Ok s)

-- the bytes are no script
pub data AreNoScript (bytes : List ℕ) : Type 0 where
  no_tokens : (f : TokenFault) → ReadsSource bytes (Err f) → AreNoScript bytes
  no_script : (ts : List Token) (f : SyntaxFault) → ReadsSource bytes (Ok ts) → Reads ts (Err f) → AreNoScript bytes

-- what is answered to bytes: the table of their script, or nothing where they are none
abbrev pub IsAnswer : List ℕ → Option (List ℕ) → Type 0
IsAnswer bytes (Some text) = (s : Script) × AreScript bytes s × (text ≡ script_table bytes s)
IsAnswer bytes None = AreNoScript bytes
