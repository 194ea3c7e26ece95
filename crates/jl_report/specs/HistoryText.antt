-- The text of a history.
--
-- It is made in two steps. An entry is what the text tells of an event: its numbers, and the texts of its function, types and
-- outcome. The lines of the entries, between a first line and a last one, are the text. The second step can be undone: each
-- line begins with a word of its own, and no name and no text in it has a newline, nor has a function's name a space.
--
-- There are two versions, which differ in the first line. The second, which may tell of deletions, is that of the programs that
-- have a deletion place.
use Rattle.std.specs.Prelude.{ℕ, ◌+◌, Bool, true, false, cond, nat_eq, nat_lt, codes, decimal, List, [], ◌∷◌, ◌++◌, length}
use Rattle.jl_model.specs.declared.ty.Ty.TheVariants.{Tuple}
use Rattle.jl_program.specs.declared.tree.Program.{Program}
use Rattle.jl_program.specs.Text.{function_name, type_text, value_text, fault_text}
use Rattle.jl_calculus.specs.declared.history.Event.{Event}
use Rattle.jl_calculus.specs.declared.history.Event.TheVariants as Ev
use Rattle.jl_calculus.specs.declared.history.Outcome.{Outcome}
use Rattle.jl_calculus.specs.declared.history.Outcome.TheVariants as O
use Rattle.jl_calculus.specs.declared.history.TraceItem.{TraceItem}
use Rattle.jl_calculus.specs.declared.history.TraceItem.TheVariants as I
use Rattle.jl_report.specs.declared.entry.Step.{Step}
use Rattle.jl_report.specs.declared.entry.Step.TheVariants as S
use Rattle.jl_report.specs.declared.entry.Ending.{Ending}
use Rattle.jl_report.specs.declared.entry.Ending.TheVariants as N
use Rattle.jl_report.specs.declared.entry.Entry.{Entry}
use Rattle.jl_report.specs.declared.entry.Entry.TheVariants as E

-- ---- what the text tells

-- what the text tells of an item of a trace; of a fetch it leaves out the outcome, which is that of the fetched task
abbrev pub step_of : TraceItem → Step
step_of (I.Look w p) = S.Look w p
step_of (I.Def site p) = S.Def site p
step_of (I.Spawn child p) = S.Spawn child p
step_of (I.Fetch task outcome p) = S.Fetch task p
step_of (I.WorldFull p) = S.WorldFull p
step_of (I.TaskFull p) = S.TaskFull p
step_of (I.Del place p) = S.Del place p
step_of (I.Absent place p) = S.Absent place p

-- what it tells of the items of a trace
abbrev pub steps_of : List TraceItem → List Step
steps_of [] = []
steps_of (i ∷ is) = step_of i ∷ steps_of is

-- what it tells of an outcome: the text of the value or of the fault
abbrev pub ending_of : Program → Outcome → Ending
ending_of P (O.Value v) = N.Value (value_text P v)
ending_of P (O.Error e) = N.Error (fault_text P e)

-- the entry of an event, with so many keys before it; its types stand as those of a tuple, and of a spawn it leaves out the
-- values that the task starts with
abbrev pub entry_of : Program → ℕ → Event → Entry
entry_of P keys (Ev.Begin fuel) = E.Begin fuel
entry_of P keys (Ev.Key k) = E.Key keys (function_name P k.function) (type_text P (Tuple k.types))
entry_of P keys (Ev.Fill k site first) = E.Fill k site first
entry_of P keys (Ev.Def task site) = E.Def task site
entry_of P keys (Ev.Del task place) = E.Del task place
entry_of P keys (Ev.Spawn task child start) = E.Spawn task child start.spawn
entry_of P keys (Ev.Done task ended) = E.Done task ended.calls (steps_of ended.trace) ended.output (ending_of P ended.outcome)

-- how many keys there are with this event, with so many before it: keys are numbered from 0
abbrev pub keys_with : ℕ → Event → ℕ
keys_with keys (Ev.Key k) = keys + 1
keys_with keys (Ev.Begin fuel) = keys
keys_with keys (Ev.Fill k site first) = keys
keys_with keys (Ev.Def task site) = keys
keys_with keys (Ev.Del task place) = keys
keys_with keys (Ev.Spawn task child start) = keys
keys_with keys (Ev.Done task ended) = keys

-- the entries of events, with so many keys before them
abbrev pub entries_from : Program → ℕ → List Event → List Entry
entries_from P keys [] = []
entries_from P keys (e ∷ es) = entry_of P keys e ∷ entries_from P (keys_with keys e) es

-- ---- the lines

-- numbers in decimal, each with a space before it
abbrev pub spaced : List ℕ → List ℕ
spaced [] = []
spaced (n ∷ ns) = codes " " ++ (decimal n ++ spaced ns)

-- a line of a word and numbers
abbrev pub number_line : List ℕ → List ℕ → List ℕ
number_line word ns = word ++ (spaced ns ++ codes "\n")

-- a line of a word and a text
abbrev pub text_line : List ℕ → List ℕ → List ℕ
text_line word text = word ++ (text ++ codes "\n")

-- the bytes that are escaped in quotes
abbrev pub backslash : ℕ
backslash = 92

abbrev pub quote : ℕ
quote = 34

abbrev pub newline : ℕ
newline = 10

abbrev pub carriage_return : ℕ
carriage_return = 13

-- a byte in quotes: a backslash, a quote, a newline and a carriage return are escaped
abbrev pub escaped : ℕ → List ℕ
escaped b =
    cond (nat_eq b backslash) (codes "\\\\")
    (cond (nat_eq b quote) (codes "\\\"")
    (cond (nat_eq b newline) (codes "\\n")
    (cond (nat_eq b carriage_return) (codes "\\r") (b ∷ []))))

-- bytes as they stand in quotes
abbrev pub all_escaped : List ℕ → List ℕ
all_escaped [] = []
all_escaped (b ∷ bs) = escaped b ++ all_escaped bs

-- bytes in quotes
abbrev pub quoted : List ℕ → List ℕ
quoted bs = codes "\"" ++ (all_escaped bs ++ codes "\"")

-- the line of an item of a trace
abbrev pub step_line : Step → List ℕ
step_line (S.Look world at) = number_line (codes "look") (world ∷ at ∷ [])
step_line (S.Def site at) = number_line (codes "def") (site ∷ at ∷ [])
step_line (S.Spawn child at) = number_line (codes "spawn") (child ∷ at ∷ [])
step_line (S.Fetch task at) = number_line (codes "fetch") (task ∷ at ∷ [])
step_line (S.WorldFull at) = number_line (codes "worldfull") (at ∷ [])
step_line (S.TaskFull at) = number_line (codes "taskfull") (at ∷ [])
step_line (S.Del place at) = number_line (codes "del") (place ∷ at ∷ [])
step_line (S.Absent place at) = number_line (codes "absent") (place ∷ at ∷ [])

-- the lines of a trace
abbrev pub step_lines : List Step → List ℕ
step_lines [] = []
step_lines (s ∷ ss) = step_line s ++ step_lines ss

-- the line of how a task ended
abbrev pub ending_line : Ending → List ℕ
ending_line (N.Value text) = text_line (codes "outcome value ") text
ending_line (N.Error text) = text_line (codes "outcome error ") text

-- the lines of an entry; that of the end of a task tells how many lines of its trace come after it
abbrev pub entry_lines : Entry → List ℕ
entry_lines (E.Begin fuel) = number_line (codes "begin") (fuel ∷ [])
entry_lines (E.Key number function tuple) = codes "key" ++ (spaced (number ∷ []) ++ (codes " " ++ (function ++ (codes " " ++ (tuple ++ codes "\n")))))
entry_lines (E.Fill k site first) = number_line (codes "fill") (k ∷ site ∷ first ∷ [])
entry_lines (E.Def task site) = number_line (codes "def") (task ∷ site ∷ [])
entry_lines (E.Del task place) = number_line (codes "del") (task ∷ place ∷ [])
entry_lines (E.Spawn task child place) = number_line (codes "spawn") (task ∷ child ∷ place ∷ [])
entry_lines (E.Done task calls trace output ending) =
    number_line (codes "done") (task ∷ calls ∷ length trace ∷ []) ++ (step_lines trace ++ (text_line (codes "output ") (quoted output) ++ ending_line ending))

-- the lines of entries, in order
abbrev pub all_lines : List Entry → List ℕ
all_lines [] = []
all_lines (e ∷ es) = entry_lines e ++ all_lines es

-- the first line without its newline, where the program has a deletion place or has none
abbrev pub first_line : Bool → List ℕ
first_line false = codes "%%history 1"
first_line true = codes "%%history 2"

-- the first line
abbrev pub header : Bool → List ℕ
header places = first_line places ++ codes "\n"

-- the text of entries: a first line, the lines of the entries, and a line that tells how many entries there are
abbrev pub entries_text : Bool → List Entry → List ℕ
entries_text places es = header places ++ (all_lines es ++ number_line (codes "end") (length es ∷ []))

-- ---- the text of a history

-- the entries of the events of a history
abbrev pub entries_of : Program → List Event → List Entry
entries_of P es = entries_from P 0 es

-- whether the program has a deletion place
abbrev pub has_places : Program → Bool
has_places P = nat_lt 0 (length P.deletes)

-- the text of a history of the program
abbrev pub history_text : Program → List Event → List ℕ
history_text P es = entries_text (has_places P) (entries_of P es)
