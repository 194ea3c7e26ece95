-- What the entries of a text tell of a task: the steps of its trace, and the items that these are over the events so far.
use Rattle.std.specs.Prelude.{ℕ, ◌+◌, cond, nat_eq, Bool, true, false, List, [], ◌∷◌, set, Option, None, Some}
use Rattle.jl_program.specs.declared.value.Value.TheVariants as V
use Rattle.jl_calculus.specs.declared.history.Event.{Event}
use Rattle.jl_calculus.specs.declared.history.Outcome.{Outcome}
use Rattle.jl_calculus.specs.declared.history.Outcome.TheVariants as O
use Rattle.jl_calculus.specs.declared.history.Record.{Record}
use Rattle.jl_calculus.specs.declared.history.TraceItem.{TraceItem}
use Rattle.jl_calculus.specs.declared.history.TraceItem.TheVariants as I
use Rattle.jl_calculus.specs.Past.{done_of}
use Rattle.jl_report.specs.declared.entry.Step.{Step}
use Rattle.jl_report.specs.declared.entry.Step.TheVariants as S
use Rattle.jl_report.specs.declared.entry.Entry.{Entry}
use Rattle.jl_report.specs.declared.entry.Entry.TheVariants as E

-- ---- the trace of a task

-- the steps that the entries tell of a task, at its end
abbrev pub trace_told : ℕ → List Entry → List Step
trace_told task [] = []
trace_told task (E.Done by calls trace output ending ∷ xs) = cond (nat_eq by task) trace (trace_told task xs)
trace_told task (E.Begin fuel ∷ xs) = trace_told task xs
trace_told task (E.Key number function tuple ∷ xs) = trace_told task xs
trace_told task (E.Fill key site first ∷ xs) = trace_told task xs
trace_told task (E.Def by site ∷ xs) = trace_told task xs
trace_told task (E.Del by place ∷ xs) = trace_told task xs
trace_told task (E.Spawn by child place ∷ xs) = trace_told task xs

-- the place of its end, among entries that stand from a place on
abbrev pub end_told : ℕ → ℕ → List Entry → ℕ
end_told task n [] = n
end_told task n (E.Done by calls trace output ending ∷ xs) = cond (nat_eq by task) n (end_told task (n + 1) xs)
end_told task n (E.Begin fuel ∷ xs) = end_told task (n + 1) xs
end_told task n (E.Key number function tuple ∷ xs) = end_told task (n + 1) xs
end_told task n (E.Fill key site first ∷ xs) = end_told task (n + 1) xs
end_told task n (E.Def by site ∷ xs) = end_told task (n + 1) xs
end_told task n (E.Del by place ∷ xs) = end_told task (n + 1) xs
end_told task n (E.Spawn by child place ∷ xs) = end_told task (n + 1) xs

-- the steps before the definition, deletion or spawn at a place
abbrev pub steps_before : ℕ → List Step → List Step
steps_before p [] = []
steps_before p (S.Def site q ∷ ss) = cond (nat_eq q p) [] (S.Def site q ∷ steps_before p ss)
steps_before p (S.Spawn child q ∷ ss) = cond (nat_eq q p) [] (S.Spawn child q ∷ steps_before p ss)
steps_before p (S.Look w q ∷ ss) = S.Look w q ∷ steps_before p ss
steps_before p (S.Fetch task q ∷ ss) = S.Fetch task q ∷ steps_before p ss
steps_before p (S.WorldFull q ∷ ss) = S.WorldFull q ∷ steps_before p ss
steps_before p (S.TaskFull q ∷ ss) = S.TaskFull q ∷ steps_before p ss
steps_before p (S.Del place q ∷ ss) = cond (nat_eq q p) [] (S.Del place q ∷ steps_before p ss)
steps_before p (S.Absent place q ∷ ss) = S.Absent place q ∷ steps_before p ss

-- a step is a definition, a deletion or a spawn
abbrev pub is_own : Step → Bool
is_own (S.Def site q) = true
is_own (S.Spawn child q) = true
is_own (S.Look w q) = false
is_own (S.Fetch task q) = false
is_own (S.WorldFull q) = false
is_own (S.TaskFull q) = false
is_own (S.Del place q) = true
is_own (S.Absent place q) = false

-- the steps up to the next definition, deletion or spawn
abbrev pub stretch : List Step → List Step
stretch [] = []
stretch (S.Def site q ∷ ss) = []
stretch (S.Spawn child q ∷ ss) = []
stretch (S.Look w q ∷ ss) = S.Look w q ∷ stretch ss
stretch (S.Fetch task q ∷ ss) = S.Fetch task q ∷ stretch ss
stretch (S.WorldFull q ∷ ss) = S.WorldFull q ∷ stretch ss
stretch (S.TaskFull q ∷ ss) = S.TaskFull q ∷ stretch ss
stretch (S.Del place q ∷ ss) = []
stretch (S.Absent place q ∷ ss) = S.Absent place q ∷ stretch ss

-- ---- the items that steps are

-- the outcome of a task that has ended; `nothing` where it has not
abbrev pub outcome_or_nothing : Option Record → Outcome
outcome_or_nothing None = O.Value V.Nothing
outcome_or_nothing (Some ended) = ended.outcome

-- over these events: a fetch has the outcome of the task that it fetches, which the text leaves out
abbrev pub item_told : List Event → Step → TraceItem
item_told es (S.Look w p) = I.Look w p
item_told es (S.Def site p) = I.Def site p
item_told es (S.Spawn child p) = I.Spawn child p
item_told es (S.Fetch task p) = I.Fetch task (outcome_or_nothing (done_of task es)) p
item_told es (S.WorldFull p) = I.WorldFull p
item_told es (S.TaskFull p) = I.TaskFull p
item_told es (S.Del place p) = I.Del place p
item_told es (S.Absent place p) = I.Absent place p

abbrev pub items_told : List Event → List Step → List TraceItem
items_told es [] = []
items_told es (s ∷ ss) = item_told es s ∷ items_told es ss

-- ---- the table of the ends

-- the trace of an entry that is the end of a task
abbrev pub trace_at : Option Entry → List Step
trace_at None = []
trace_at (Some (E.Done by calls trace output ending)) = trace
trace_at (Some (E.Begin fuel)) = []
trace_at (Some (E.Key number function tuple)) = []
trace_at (Some (E.Fill key site first)) = []
trace_at (Some (E.Def by site)) = []
trace_at (Some (E.Del by place)) = []
trace_at (Some (E.Spawn by child place)) = []

-- the table with the end of a task, where an entry at a place is one
abbrev pub with_end : Entry → ℕ → List ℕ → List ℕ
with_end (E.Done by calls trace output ending) n ends = set ends by n
with_end (E.Begin fuel) n ends = ends
with_end (E.Key number function tuple) n ends = ends
with_end (E.Fill key site first) n ends = ends
with_end (E.Def by site) n ends = ends
with_end (E.Del by place) n ends = ends
with_end (E.Spawn by child place) n ends = ends
