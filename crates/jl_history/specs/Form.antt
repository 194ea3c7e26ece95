-- Which texts are those of histories, and which line of another text is the first that is not of this form.
--
-- `places` is whether the program has a deletion place. Where it has none, no deletion is told, and the first line is another.
use Rattle.std.specs.Prelude.{◌≡◌, ◌≤◌, ◌<◌, ◌&&◌, ◌+◌, ℕ, Bool, true, not, nat_eq, List, [], ◌∷◌, ◌++◌, length, Result, Ok, Err}
use Rattle.std.specs.Str.{IsUtf8}
use Rattle.jl_model.specs.declared.limits.TheConstants.{MOST_FUEL}
use Rattle.jl_report.specs.declared.entry.Step.{Step}
use Rattle.jl_report.specs.declared.entry.Step.TheVariants as S
use Rattle.jl_report.specs.declared.entry.Ending.{Ending}
use Rattle.jl_report.specs.declared.entry.Ending.TheVariants as N
use Rattle.jl_report.specs.declared.entry.Entry.{Entry}
use Rattle.jl_report.specs.declared.entry.Entry.TheVariants as E
use Rattle.jl_report.specs.HistoryText.{newline, entries_text}
use Rattle.jl_history.specs.declared.fault.HistoryFault.{HistoryFault}
use Rattle.jl_history.specs.declared.fault.HistoryFault.TheVariants.{BadText, Memory}
use Rattle.jl_history.specs.declared.fields.TheConstants.{MOST_NUMBER, MOST_ITEMS}

-- ---- the entries of a history

-- whether a byte does not occur
abbrev pub lacks : ℕ → List ℕ → Bool
lacks mark [] = true
lacks mark (b ∷ bs) = not (nat_eq b mark) && lacks mark bs

-- a text of a line: not empty, and in one line
pub record IsText (text : List ℕ) : Type 0 where
  pub some : 0 < length text
  pub one_line : lacks newline text ≡ true
  pub utf8 : IsUtf8 text

-- a function's name is such a text without a space
pub record IsKey (number : ℕ) (function tuple : List ℕ) : Type 0 where
  pub small : number ≤ MOST_NUMBER
  pub name : IsText function
  pub one_word : lacks 32 function ≡ true
  pub types : IsText tuple

-- what may be told of an item of a trace
abbrev pub IsStep : Bool → Step → Type 0
IsStep places (S.Look world at) = (world ≤ MOST_NUMBER) × (at ≤ MOST_NUMBER)
IsStep places (S.Def site at) = (site ≤ MOST_NUMBER) × (at ≤ MOST_NUMBER)
IsStep places (S.Spawn child at) = (child ≤ MOST_NUMBER) × (at ≤ MOST_NUMBER)
IsStep places (S.Fetch task at) = (task ≤ MOST_NUMBER) × (at ≤ MOST_NUMBER)
IsStep places (S.WorldFull at) = at ≤ MOST_NUMBER
IsStep places (S.TaskFull at) = at ≤ MOST_NUMBER
IsStep places (S.Del place at) = (places ≡ true) × (place ≤ MOST_NUMBER) × (at ≤ MOST_NUMBER)
IsStep places (S.Absent place at) = (places ≡ true) × (place ≤ MOST_NUMBER) × (at ≤ MOST_NUMBER)

-- what may be told of a trace
abbrev pub AreSteps : Bool → List Step → Type 0
AreSteps places [] = Unit {0}
AreSteps places (s ∷ ss) = IsStep places s × AreSteps places ss

-- what may be told of how a task ended
abbrev pub IsEnding : Ending → Type 0
IsEnding (N.Value text) = IsText text
IsEnding (N.Error text) = IsText text

-- what may be told of a task that ended
pub record IsDone (places : Bool) (task calls : ℕ) (trace : List Step) (output : List ℕ) (ending : Ending) : Type 0 where
  pub task_small : task ≤ MOST_NUMBER
  pub calls_small : calls ≤ MOST_NUMBER
  pub items : length trace ≤ MOST_ITEMS
  pub steps : AreSteps places trace
  pub utf8 : IsUtf8 output
  pub ends : IsEnding ending

-- what may be told of an event after the first
abbrev pub IsEntry : Bool → Entry → Type 0
IsEntry places (E.Begin fuel) = ⊥
IsEntry places (E.Key number function tuple) = IsKey number function tuple
IsEntry places (E.Fill key site first) = (key ≤ MOST_NUMBER) × (site ≤ MOST_NUMBER) × (first ≤ MOST_NUMBER)
IsEntry places (E.Def task site) = (task ≤ MOST_NUMBER) × (site ≤ MOST_NUMBER)
IsEntry places (E.Del task place) = (places ≡ true) × (task ≤ MOST_NUMBER) × (place ≤ MOST_NUMBER)
IsEntry places (E.Spawn task child place) = (task ≤ MOST_NUMBER) × (child ≤ MOST_NUMBER) × (place ≤ MOST_NUMBER)
IsEntry places (E.Done task calls trace output ending) = IsDone places task calls trace output ending

-- what may be told of the events after the first
abbrev pub AreLater : Bool → List Entry → Type 0
AreLater places [] = Unit {0}
AreLater places (e ∷ es) = IsEntry places e × AreLater places es

-- what may be told of the first event
abbrev pub IsBegin : Entry → Type 0
IsBegin (E.Begin fuel) = fuel ≤ MOST_FUEL
IsBegin (E.Key number function tuple) = ⊥
IsBegin (E.Fill key site first) = ⊥
IsBegin (E.Def task site) = ⊥
IsBegin (E.Del task place) = ⊥
IsBegin (E.Spawn task child place) = ⊥
IsBegin (E.Done task calls trace output ending) = ⊥

-- what may be told of the first events of a history
abbrev pub AreFirst : Bool → List Entry → Type 0
AreFirst places [] = ⊥
AreFirst places (e ∷ es) = IsBegin e × AreLater places es

-- what may be told of the events of a history, whose number is that of a line too
abbrev pub AreEntries : Bool → List Entry → Type 0
AreEntries places es = AreFirst places es × (length es ≤ MOST_NUMBER)

-- ---- the first line that is not of the form

-- lines, each with its newline
abbrev pub joined : List (List ℕ) → List ℕ
joined [] = []
joined (l ∷ ls) = l ++ newline ∷ joined ls

-- there is no newline in them
abbrev pub AreLines : List (List ℕ) → Type 0
AreLines [] = Unit {0}
AreLines (l ∷ ls) = (lacks newline l ≡ true) × AreLines ls

-- the text of some history begins so
pub record IsBegun (places : Bool) (front : List ℕ) : Type 0 where
  pub entries : List Entry
  pub more : List ℕ
  pub told : AreEntries places entries
  pub goes_on : entries_text places entries ≡ front ++ more

-- Line n of a text is the first that is not of the form: it is no text of a history, that of some history begins with the lines
-- before line n, and none begins with them and line n, where that is a whole line and neither cut nor missing.
pub record IsFirstBad (places : Bool) (n : ℕ) (text : List ℕ) : Type 0 where
  pub before : List (List ℕ)
  pub rest : List ℕ
  pub number : n ≡ length before + 1
  pub lines : AreLines before
  pub parts : text ≡ joined before ++ rest
  pub good : IsBegun places (joined before)
  pub bad : (line more : List ℕ) → lacks newline line ≡ true → rest ≡ line ++ newline ∷ more → IsBegun places (joined (before ++ line ∷ [])) → ⊥
  pub other : (es : List Entry) → AreEntries places es → text ≡ entries_text places es → ⊥

-- ---- what reading tells

-- the entries that a text is that of, or its first line that is not of the form
abbrev pub Tells : Bool → List ℕ → Result (List Entry) HistoryFault → Type 0
Tells places text (Ok es) = AreEntries places es × (text ≡ entries_text places es)
Tells places text (Err (BadText n)) = IsFirstBad places n text
Tells places text (Err Memory) = Unit {0}

-- the answer is this one, unless memory ran out
abbrev pub UnlessMemory : Result (List Entry) HistoryFault → Result (List Entry) HistoryFault → Type 0
UnlessMemory (Err Memory) due = Unit {0}
UnlessMemory answer due = answer ≡ due
