-- A text has more bytes than there are entries, and than there are items in a trace of it.
use Rattle.std.proofs.Common.{ℕ, ◌≤◌, ◌<◌, arith, Bool, codes, List, [], ◌∷◌, ◌++◌, length, length-append}
use Rattle.jl_report.specs.declared.entry.Step.{Step}
use Rattle.jl_report.specs.declared.entry.Step.TheVariants as S
use Rattle.jl_report.specs.declared.entry.Ending.{Ending}
use Rattle.jl_report.specs.declared.entry.Entry.{Entry}
use Rattle.jl_report.specs.declared.entry.Entry.TheVariants as E
use Rattle.jl_report.specs.HistoryText.{spaced, number_line, text_line, quoted, step_line, step_lines, ending_line, entry_lines, all_lines, header, entries_text}

-- ---- what stands at the end counts

after : (a b : List ℕ) → length b ≤ length (a ++ b)
after a b = omega (arith, length-append a b)

number_line_some : (word ns : List ℕ) → 1 ≤ length (number_line word ns)
number_line_some word ns =
    let a = after word (spaced ns ++ codes "\n") in
    let b = after (spaced ns) (codes "\n") in
    let c : 1 ≤ length (codes "\n") = omega arith in
    omega (arith, a, b, c)

step_some : (s : Step) → 1 ≤ length (step_line s)
step_some (S.Look world at) = number_line_some (codes "look") (world ∷ at ∷ [])
step_some (S.Def site at) = number_line_some (codes "def") (site ∷ at ∷ [])
step_some (S.Spawn child at) = number_line_some (codes "spawn") (child ∷ at ∷ [])
step_some (S.Fetch task at) = number_line_some (codes "fetch") (task ∷ at ∷ [])
step_some (S.WorldFull at) = number_line_some (codes "worldfull") (at ∷ [])
step_some (S.TaskFull at) = number_line_some (codes "taskfull") (at ∷ [])
step_some (S.Del place at) = number_line_some (codes "del") (place ∷ at ∷ [])
step_some (S.Absent place at) = number_line_some (codes "absent") (place ∷ at ∷ [])

steps_few : (ss : List Step) → length ss ≤ length (step_lines ss)
steps_few [] = omega arith
steps_few (s ∷ ss) = omega (arith, step_some s, steps_few ss, length-append (step_line s) (step_lines ss))

module _ (task calls : ℕ) (trace : List Step) (output : List ℕ) (ending : Ending) where
  abbrev head : List ℕ
  head = number_line (codes "done") (task ∷ calls ∷ length trace ∷ [])

  abbrev tail : List ℕ
  tail = text_line (codes "output ") (quoted output) ++ ending_line ending

  -- the items of a trace are fewer than the bytes of its entry
  pub items_few : length trace < length (entry_lines (E.Done task calls trace output ending))
  items_few =
      omega (arith, number_line_some (codes "done") (task ∷ calls ∷ length trace ∷ []), steps_few trace, length-append head (step_lines trace ++ tail), length-append (step_lines trace) tail)

key_some : (number : ℕ) (function tuple : List ℕ) → 1 ≤ length (entry_lines (E.Key number function tuple))
key_some number function tuple = (let a = length-append (codes "key") (spaced (number ∷ []) ++ (codes " " ++ (function ++ (codes " " ++ (tuple ++ codes "\n"))))) in let b : 1 ≤ length (codes "key") = omega arith in omega (arith, a, b))

entry_some : (e : Entry) → 1 ≤ length (entry_lines e)
entry_some (E.Begin fuel) = number_line_some (codes "begin") (fuel ∷ [])
entry_some (E.Key number function tuple) = key_some number function tuple
entry_some (E.Fill k site first) = number_line_some (codes "fill") (k ∷ site ∷ first ∷ [])
entry_some (E.Def task site) = number_line_some (codes "def") (task ∷ site ∷ [])
entry_some (E.Del task place) = number_line_some (codes "del") (task ∷ place ∷ [])
entry_some (E.Spawn task child place) = number_line_some (codes "spawn") (task ∷ child ∷ place ∷ [])
entry_some (E.Done task calls trace output ending) = omega (arith, items_few task calls trace output ending)

pub entries_few : (es : List Entry) → length es ≤ length (all_lines es)
entries_few [] = omega arith
entries_few (e ∷ es) = omega (arith, entry_some e, entries_few es, length-append (entry_lines e) (all_lines es))

-- the lines of the entries are a part of the text
pub lines_few : (places : Bool) (es : List Entry) → length (all_lines es) ≤ length (entries_text places es)
lines_few places es =
    let last = number_line (codes "end") (length es ∷ []) in
    omega (arith, length-append (header places) (all_lines es ++ last), length-append (all_lines es) last)
