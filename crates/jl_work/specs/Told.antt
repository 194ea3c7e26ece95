-- What is told of a run.
use Rattle.std.specs.Prelude.{ℕ, ◌≡◌, ◌-◌, ◌==◌, if◌then◌else◌, cond, nat_eq, codes, decimal, List, [], ◌∷◌, ◌++◌, length, slice_get, Option, None, Some}
use Rattle.jl_model.specs.declared.ty.Key.{Key}
use Rattle.jl_model.specs.declared.ty.Ty.TheVariants.{Tuple}
use Rattle.jl_program.specs.declared.choice.Choice.{Choice}
use Rattle.jl_program.specs.declared.choice.Choice.TheVariants as H
use Rattle.jl_program.specs.declared.tree.Program.{Program}
use Rattle.jl_program.specs.declared.tree.Site.{Site}
use Rattle.jl_program.specs.Text.{function_name, type_text}
use Rattle.jl_calculus.specs.declared.history.Change.{Change}
use Rattle.jl_calculus.specs.declared.history.Event.{Event}
use Rattle.jl_calculus.specs.Legal.{text_of}
use Rattle.jl_calculus.specs.World.{changes, site_in}
use Rattle.jl_report.specs.HistoryText.{history_text}
use Rattle.jl_report.specs.Summary.{summary_text}
use Rattle.jl_reflect.specs.declared.ranges.Span.{Span}
use Rattle.jl_reflect.specs.Asked.{MeansKey}
use Rattle.jl_reflect.specs.Spans.{AreSpans}
use Rattle.jl_ambig.specs.declared.noting.Pair.{Pair}
use Rattle.jl_ambig.specs.Pairs.{ArePairs, AreUnexamined}
use Rattle.jl_work.specs.declared.work.Question.{Question}
use Rattle.jl_work.specs.declared.work.Telling.{Telling}
use Rattle.jl_work.specs.declared.work.Telling.TheVariants as T

-- ---- the ranges of worlds with one choice each

-- the last world of a range, or `-` where it has no end
abbrev pub last_text : Option ℕ → List ℕ
last_text None = codes "-"
last_text (Some world) = decimal world

-- a definition is told by the world that it made
abbrev pub choice_text : Choice → List ℕ
choice_text H.None = codes "none"
choice_text (H.Method d) = codes "definition " ++ decimal d
choice_text (H.Ambiguous a b) = codes "ambiguous " ++ (decimal a ++ (codes " " ++ decimal b))

abbrev pub span_line : Span → List ℕ
span_line s = decimal s.first ++ (codes " " ++ (last_text s.last ++ (codes " " ++ (choice_text s.choice ++ codes "\n"))))

abbrev pub spans_text : List Span → List ℕ
spans_text [] = []
spans_text (s ∷ ss) = span_line s ++ spans_text ss

-- ---- the pairs of definitions between which calls are ambiguous

abbrev pub function_in : Option Site → ℕ
function_in None = 0
function_in (Some site) = site.function

-- the change that made a world, where there is one: world 0 has none
abbrev pub made_at : List Change → ℕ → Option Change
made_at cs w = cond (nat_eq w 0) None (slice_get cs (w - 1))

-- the name of the function of a definition, among these changes
abbrev pub name_of : Program → List Change → ℕ → List ℕ
name_of P cs d = function_name P (function_in (slice_get P.sites (site_in (made_at cs d))))

-- the line of a pair of definitions of a function of this name, with the types at which a call is ambiguous between them
unfoldable pub pair_line : Program → List ℕ → Pair → List ℕ
pair_line P name p =
    name ++ (codes " definitions " ++ (decimal p.a ++ (codes " and " ++ (decimal p.b ++ (codes " at " ++ (type_text P (Tuple p.types) ++ codes "\n"))))))

abbrev pub pair_lines : Program → List Change → List Pair → List ℕ
pair_lines P cs [] = []
pair_lines P cs (p ∷ ps) = pair_line P (name_of P cs p.a) p ++ pair_lines P cs ps

-- the line of a definition that is not examined
unfoldable pub unexamined_line : ℕ → List ℕ
unexamined_line d = codes "definition " ++ (decimal d ++ codes " not examined\n")

abbrev pub unexamined_lines : List ℕ → List ℕ
unexamined_lines [] = []
unexamined_lines (d ∷ ds) = unexamined_line d ++ unexamined_lines ds

-- how many pairs there are
abbrev pub count_line : ℕ → List ℕ
count_line n = codes "pairs " ++ (decimal n ++ codes "\n")

abbrev pub pairs_text : Program → List Event → List Pair → List ℕ → List ℕ
pairs_text P es ps ds = pair_lines P (changes es) ps ++ (unexamined_lines ds ++ count_line (length ps))

-- ---- what is told

-- the text tells in which worlds what is chosen for the key that a question means
pub record TellsSpans (P : Program) (es : List Event) (question : Question) (text : List ℕ) : Type 0 where
  pub key : Key
  pub means : MeansKey P question.name question.ty key
  pub spans : List Span
  pub are : AreSpans P es key spans
  pub is : text ≡ spans_text spans

-- it tells the pairs of definitions between which calls are ambiguous, and the definitions that are not examined
pub record TellsPairs (P : Program) (es : List Event) (text : List ℕ) : Type 0 where
  pub pairs : List Pair
  pub are : ArePairs P es pairs
  pub left : List ℕ
  pub are_left : AreUnexamined P es left
  pub is : text ≡ pairs_text P es pairs left

-- the newline that goes behind a text which ends in this byte, if it ends in one
abbrev pub newline_behind : Option ℕ → List ℕ
newline_behind None = []
newline_behind (Some byte) = if byte == 10 then [] else codes "\n"

-- the newline that a text lacks: none where it is empty or ends in one
abbrev pub missing_newline : List ℕ → List ℕ
missing_newline text = newline_behind (slice_get text (length text - 1))

-- what is told of a run: the text of its result; that text as lines, and then the text of its history; the summary of the run of a
-- generated script; or the pairs
abbrev pub IsTold : Telling → Program → List Event → List ℕ → Type 0
IsTold T.Text P es text = text ≡ text_of P es
IsTold T.Trace P es text = text ≡ text_of P es ++ (missing_newline (text_of P es) ++ history_text P es)
IsTold (T.Summary n) P es text = text ≡ summary_text n P es
IsTold T.Pairs P es text = TellsPairs P es text
