-- What a task may ask of others while it runs, and which items answer it.
use Rattle.std.specs.Prelude.{◌≡◌, List, [], ◌∷◌, Option}
use Rattle.jl_calculus.specs.declared.history.TraceItem.{TraceItem}
use Rattle.jl_calculus.specs.declared.history.TraceItem.TheVariants.{Look, Def, Del, Spawn, Fetch, WorldFull, TaskFull, Absent}
use Rattle.jl_calculus.specs.Run.{Question, a_look, a_definition, a_deletion, a_spawn, a_fetch, halts}

-- an item answers a question
abbrev pub IsAnswerTo : Question → TraceItem → Type 0
IsAnswerTo a_look (Look w p) = Unit {0}
IsAnswerTo (a_definition site) (Def made p) = made ≡ site
IsAnswerTo (a_definition site) (WorldFull p) = Unit {0}
IsAnswerTo (a_deletion place) (Del made p) = made ≡ place
IsAnswerTo (a_deletion place) (Absent made p) = made ≡ place
IsAnswerTo (a_deletion place) (WorldFull p) = Unit {0}
IsAnswerTo (a_spawn start) (Spawn child p) = Unit {0}
IsAnswerTo (a_spawn start) (TaskFull p) = Unit {0}
IsAnswerTo (a_fetch of) (Fetch task outcome p) = task ≡ of
IsAnswerTo _ _ = ⊥

-- a trace goes on with an answer to a question, or ends where a run may stop at that question
abbrev pub GoesOnFrom : Option Question → Question → List TraceItem → Type 0
GoesOnFrom until q [] = halts until q
GoesOnFrom until q (i ∷ is) = IsAnswerTo q i
