-- What is told of runs from how far a task has come.
use Rattle.std.proofs.Common.{◌≡◌, ◌∙◌, ◌⊎◌, inl, inr, ◌↔◌, ap, sym, subst, refl, ℕ, zero, suc, ◌<◌, ◌≤◌, arith, Bool, true, false, cond, IsTrue, List, [], ◌∷◌, ◌++◌, append-nil, length-append, drop, take, length, slice_get, Option, Some, None}
use Rattle.std.proofs.lemmas.List.{length-drop}
use Rattle.jl_program.specs.declared.tree.Program.{Program}
use Rattle.jl_program.specs.declared.tree.Start.{Start}
use Rattle.jl_program.specs.declared.value.Value.TheVariants as V
use Rattle.jl_calculus.specs.declared.history.Event.{Event}
use Rattle.jl_calculus.specs.declared.history.Event.TheVariants as Ev
use Rattle.jl_calculus.specs.declared.history.Outcome.{Outcome}
use Rattle.jl_calculus.specs.declared.history.Outcome.TheVariants as O
use Rattle.jl_calculus.specs.declared.history.Record.{Record}
use Rattle.jl_calculus.specs.declared.history.TraceItem.{TraceItem}
use Rattle.jl_calculus.specs.declared.history.TraceItem.TheVariants.{Look, Def, Del, Spawn, Fetch, WorldFull, TaskFull, Absent}
use Rattle.jl_calculus.specs.Legal.{start_of}
use Rattle.jl_calculus.specs.Past.{own_items, own_events, own_starts, tasks_of}
use Rattle.jl_calculus.specs.Run.{Question, a_look, a_definition, a_deletion, a_spawn, a_fetch, halts}
use Rattle.jl_calculus.specs.ValidHistory.{IsValidOutcome}
use Rattle.jl_calculus.specs.World.{changed, world_of}
use Rattle.jl_calculus.proofs.GrowthLemmas.{changed_append, first_at_most}
use Rattle.jl_task.specs.declared.point.Work.TheVariants as W
use Rattle.jl_task.specs.Questions.{IsAnswerTo, GoesOnFrom}
use Rattle.jl_task.specs.Knows.{Knows}
use Rattle.jl_task.specs.Asks.{Over, Ending, RunsTo, StartsJoin}
use Rattle.jl_task.specs.Fits.{AllLearnt, FitsWith, IsRunOf}
use Rattle.jl_task.proofs.Traces.{own_more}
use Rattle.jl_machine.specs.declared.task.Machine.{Machine}
use Rattle.jl_machine.specs.Lent.{work_of}
use Rattle.jl_machine.specs.Steps.{IsAt, IsEnded, HasEnded, job_with, fuel_of, progress_of}
use Rattle.jl_machine.proofs.Whole.{ended_law}
use Rattle.jl_lead.specs.declared.led.Led.{Led}
use Rattle.jl_lead.specs.Items.{is_absence, IsSameQuestion, Begins}
use Rattle.jl_lead.specs.Leads.{GoesOn, AreMadeBy}
use Rattle.jl_lead.specs.Led.{knows_of}
use Rattle.jl_lead.specs.Coming.{ComesTo, TellsDefinition, TellsDeletion, TellsSpawn, RunsSo, IsNoRun, IsTheRun, left_of, whole_trace, IsThere, IsAway, HasDefined, HasDeleted, HasSpawned, IsDefAt, IsDelAt, IsSpawnAt}
use Rattle.jl_lead.proofs.EventFacts.{self_eq, goes_self, tasks_append, own_later, starts_append}
use Rattle.jl_lead.proofs.Leading.{machine_at}

-- ---- what was made

-- an event that a task made is its own
own_made_def : (task n site : ℕ) → own_events task n (Ev.Def task site ∷ []) ≡ Def site n ∷ []
own_made_def task n site = ap (λ b. cond b (Def site n ∷ []) []) (self_eq task)

own_made_del : (task n place : ℕ) → own_events task n (Ev.Del task place ∷ []) ≡ Del place n ∷ []
own_made_del task n place = ap (λ b. cond b (Del place n ∷ []) []) (self_eq task)

own_made_spawn : (task n child : ℕ) (start : Start) → own_events task n (Ev.Spawn task child start ∷ []) ≡ Spawn child n ∷ []
own_made_spawn task n child start = ap (λ b. cond b (Spawn child n ∷ []) []) (self_eq task)

-- a definition was made where it is an own item
pub made_def : (task n site p : ℕ) (es made : List Event) → AreMadeBy task es made → Def site p ∷ [] ≡ own_events task n made → (made ≡ Ev.Def task site ∷ []) × (p ≡ n)
made_def task n site p es [] by e = absurd (cc (e))
made_def task n site p es (Ev.Def t z ∷ []) by e =
    let same : Def site p ∷ [] ≡ Def z n ∷ [] = e ∙ subst (λ u. own_events task n (Ev.Def u z ∷ []) ≡ Def z n ∷ []) (sym by) (own_made_def task n z) in
    let s : site ≡ z = cc (same) in
    ((λ i. Ev.Def (by i) (sym s i) ∷ []), cc (same))
made_def task n site p es (Ev.Spawn t child start ∷ []) by e =
    let same : Def site p ∷ [] ≡ Spawn child n ∷ [] = e ∙ subst (λ u. own_events task n (Ev.Spawn u child start ∷ []) ≡ Spawn child n ∷ []) (sym by.0) (own_made_spawn task n child start) in absurd (cc (same))
made_def task n site p es (Ev.Done t ended ∷ []) by e = absurd (cc (e))
made_def task n site p es (Ev.Del t z ∷ []) by e =
    let same : Def site p ∷ [] ≡ Del z n ∷ [] = e ∙ subst (λ u. own_events task n (Ev.Del u z ∷ []) ≡ Del z n ∷ []) (sym by) (own_made_del task n z) in absurd (cc (same))
made_def task n site p es (Ev.Begin fuel ∷ []) by e = absurd by
made_def task n site p es (Ev.Key key ∷ []) by e = absurd by
made_def task n site p es (Ev.Fill key z first ∷ []) by e = absurd by
made_def task n site p es (x ∷ y ∷ made) by e = absurd by

-- a deletion likewise
pub made_del : (task n place p : ℕ) (es made : List Event) → AreMadeBy task es made → Del place p ∷ [] ≡ own_events task n made → (made ≡ Ev.Del task place ∷ []) × (p ≡ n)
made_del task n place p es [] by e = absurd (cc (e))
made_del task n place p es (Ev.Del t z ∷ []) by e =
    let same : Del place p ∷ [] ≡ Del z n ∷ [] = e ∙ subst (λ u. own_events task n (Ev.Del u z ∷ []) ≡ Del z n ∷ []) (sym by) (own_made_del task n z) in
    let s : place ≡ z = cc (same) in
    ((λ i. Ev.Del (by i) (sym s i) ∷ []), cc (same))
made_del task n place p es (Ev.Def t z ∷ []) by e =
    let same : Del place p ∷ [] ≡ Def z n ∷ [] = e ∙ subst (λ u. own_events task n (Ev.Def u z ∷ []) ≡ Def z n ∷ []) (sym by) (own_made_def task n z) in absurd (cc (same))
made_del task n place p es (Ev.Spawn t child start ∷ []) by e =
    let same : Del place p ∷ [] ≡ Spawn child n ∷ [] = e ∙ subst (λ u. own_events task n (Ev.Spawn u child start ∷ []) ≡ Spawn child n ∷ []) (sym by.0) (own_made_spawn task n child start) in absurd (cc (same))
made_del task n place p es (Ev.Done t ended ∷ []) by e = absurd (cc (e))
made_del task n place p es (Ev.Begin fuel ∷ []) by e = absurd by
made_del task n place p es (Ev.Key key ∷ []) by e = absurd by
made_del task n place p es (Ev.Fill key z first ∷ []) by e = absurd by
made_del task n place p es (x ∷ y ∷ made) by e = absurd by

-- and a spawn, of the next task
pub made_spawn : (task n child p : ℕ) (es made : List Event) → AreMadeBy task es made → Spawn child p ∷ [] ≡ own_events task n made
    → (start : Start) × (made ≡ Ev.Spawn task (tasks_of es) start ∷ []) × (child ≡ tasks_of es) × (p ≡ n)
made_spawn task n child p es [] by e = absurd (cc (e))
made_spawn task n child p es (Ev.Spawn t c start ∷ []) by e =
    let same : Spawn child p ∷ [] ≡ Spawn c n ∷ [] = e ∙ subst (λ u. own_events task n (Ev.Spawn u c start ∷ []) ≡ Spawn c n ∷ []) (sym by.0) (own_made_spawn task n c start) in
    let s : child ≡ c = cc (same) in
    (start, (λ i. Ev.Spawn (by.0 i) (by.1 i) start ∷ []), s ∙ by.1, cc (same))
made_spawn task n child p es (Ev.Def t z ∷ []) by e =
    let same : Spawn child p ∷ [] ≡ Def z n ∷ [] = e ∙ subst (λ u. own_events task n (Ev.Def u z ∷ []) ≡ Def z n ∷ []) (sym by) (own_made_def task n z) in absurd (cc (same))
made_spawn task n child p es (Ev.Done t ended ∷ []) by e = absurd (cc (e))
made_spawn task n child p es (Ev.Del t z ∷ []) by e =
    let same : Spawn child p ∷ [] ≡ Del z n ∷ [] = e ∙ subst (λ u. own_events task n (Ev.Del u z ∷ []) ≡ Del z n ∷ []) (sym by) (own_made_del task n z) in absurd (cc (same))
made_spawn task n child p es (Ev.Begin fuel ∷ []) by e = absurd by
made_spawn task n child p es (Ev.Key key ∷ []) by e = absurd by
made_spawn task n child p es (Ev.Fill key z first ∷ []) by e = absurd by
made_spawn task n child p es (x ∷ y ∷ made) by e = absurd by

-- where nothing is its own, the worlds and the tasks are as they were
made_none : (task n : ℕ) (es made : List Event) → AreMadeBy task es made → [] ≡ own_events task n made → (changed made ≡ []) × (tasks_of made ≡ 1)
made_none task n es [] by e = (refl, refl)
made_none task n es (Ev.Done t ended ∷ []) by e = (refl, refl)
made_none task n es (Ev.Def t z ∷ []) by e =
    let same : [] ≡ Def z n ∷ [] = e ∙ subst (λ u. own_events task n (Ev.Def u z ∷ []) ≡ Def z n ∷ []) (sym by) (own_made_def task n z) in absurd (cc (same))
made_none task n es (Ev.Spawn t c start ∷ []) by e =
    let same : [] ≡ Spawn c n ∷ [] = e ∙ subst (λ u. own_events task n (Ev.Spawn u c start ∷ []) ≡ Spawn c n ∷ []) (sym by.0) (own_made_spawn task n c start) in absurd (cc (same))
made_none task n es (Ev.Del t z ∷ []) by e =
    let same : [] ≡ Del z n ∷ [] = e ∙ subst (λ u. own_events task n (Ev.Del u z ∷ []) ≡ Del z n ∷ []) (sym by) (own_made_del task n z) in absurd (cc (same))
made_none task n es (Ev.Begin fuel ∷ []) by e = absurd by
made_none task n es (Ev.Key key ∷ []) by e = absurd by
made_none task n es (Ev.Fill key z first ∷ []) by e = absurd by
made_none task n es (x ∷ y ∷ made) by e = absurd by

-- what stands right after the known events
after_es : (es made : List Event) → slice_get (es ++ made) (length es) ≡ slice_get made 0
after_es [] made = refl
after_es (e ∷ es) made = after_es es made

is_def : (site task : ℕ) (es made : List Event) → AreMadeBy task es made → IsDefAt site (slice_get made 0) → made ≡ Ev.Def task site ∷ []
is_def site task es [] by h = absurd h
is_def site task es (Ev.Def t z ∷ []) by h = λ i. Ev.Def (by i) (h i) ∷ []
is_def site task es (Ev.Spawn t c start ∷ []) by h = absurd h
is_def site task es (Ev.Done t ended ∷ []) by h = absurd h
is_def site task es (Ev.Del t at ∷ []) by h = absurd h
is_def site task es (Ev.Begin fuel ∷ []) by h = absurd h
is_def site task es (Ev.Key key ∷ []) by h = absurd h
is_def site task es (Ev.Fill key z first ∷ []) by h = absurd h
is_def site task es (x ∷ y ∷ made) by h = absurd by

is_del : (place task : ℕ) (es made : List Event) → AreMadeBy task es made → IsDelAt place (slice_get made 0) → made ≡ Ev.Del task place ∷ []
is_del place task es [] by h = absurd h
is_del place task es (Ev.Del t z ∷ []) by h = λ i. Ev.Del (by i) (h i) ∷ []
is_del place task es (Ev.Def t z ∷ []) by h = absurd h
is_del place task es (Ev.Spawn t c start ∷ []) by h = absurd h
is_del place task es (Ev.Done t ended ∷ []) by h = absurd h
is_del place task es (Ev.Begin fuel ∷ []) by h = absurd h
is_del place task es (Ev.Key key ∷ []) by h = absurd h
is_del place task es (Ev.Fill key z first ∷ []) by h = absurd h
is_del place task es (x ∷ y ∷ made) by h = absurd by

is_spawn : (place task : ℕ) (es made : List Event) → AreMadeBy task es made → IsSpawnAt place (slice_get made 0) → (start : Start) × (made ≡ Ev.Spawn task (tasks_of es) start ∷ []) × (start.spawn ≡ place)
is_spawn place task es [] by h = absurd h
is_spawn place task es (Ev.Spawn t c start ∷ []) by h = (start, (λ i. Ev.Spawn (by.0 i) (by.1 i) start ∷ []), h)
is_spawn place task es (Ev.Def t z ∷ []) by h = absurd h
is_spawn place task es (Ev.Done t ended ∷ []) by h = absurd h
is_spawn place task es (Ev.Del t at ∷ []) by h = absurd h
is_spawn place task es (Ev.Begin fuel ∷ []) by h = absurd h
is_spawn place task es (Ev.Key key ∷ []) by h = absurd h
is_spawn place task es (Ev.Fill key z first ∷ []) by h = absurd h
is_spawn place task es (x ∷ y ∷ made) by h = absurd by

-- ---- questions

-- two items that answer what is asked answer the same question
pub same_question : (q : Question) (i j : TraceItem) → IsAnswerTo q i → IsAnswerTo q j → IsSameQuestion i j
same_question a_look (Look w p) (Look v r) a b = tt
same_question a_look (Look w p) (Def s r) a b = absurd b
same_question a_look (Look w p) (Spawn c r) a b = absurd b
same_question a_look (Look w p) (Fetch t o r) a b = absurd b
same_question a_look (Look w p) (WorldFull r) a b = absurd b
same_question a_look (Look w p) (TaskFull r) a b = absurd b
same_question a_look (Look w p) (Del u r) a b = absurd b
same_question a_look (Look w p) (Absent u r) a b = absurd b
same_question a_look (Def s p) j a b = absurd a
same_question a_look (Spawn c p) j a b = absurd a
same_question a_look (Fetch t o p) j a b = absurd a
same_question a_look (WorldFull p) j a b = absurd a
same_question a_look (TaskFull p) j a b = absurd a
same_question a_look (Del s p) j a b = absurd a
same_question a_look (Absent s p) j a b = absurd a
same_question (a_definition z) (Def s p) (Def u r) a b = a ∙ sym b
same_question (a_definition z) (Def s p) (WorldFull r) a b = tt
same_question (a_definition z) (WorldFull p) (Def u r) a b = tt
same_question (a_definition z) (WorldFull p) (WorldFull r) a b = tt
same_question (a_definition z) (Def s p) (Look v r) a b = absurd b
same_question (a_definition z) (Def s p) (Spawn c r) a b = absurd b
same_question (a_definition z) (Def s p) (Fetch t o r) a b = absurd b
same_question (a_definition z) (Def s p) (TaskFull r) a b = absurd b
same_question (a_definition z) (Def s p) (Del u r) a b = absurd b
same_question (a_definition z) (Def s p) (Absent u r) a b = absurd b
same_question (a_definition z) (WorldFull p) (Look v r) a b = absurd b
same_question (a_definition z) (WorldFull p) (Spawn c r) a b = absurd b
same_question (a_definition z) (WorldFull p) (Fetch t o r) a b = absurd b
same_question (a_definition z) (WorldFull p) (TaskFull r) a b = absurd b
same_question (a_definition z) (WorldFull p) (Del u r) a b = absurd b
same_question (a_definition z) (WorldFull p) (Absent u r) a b = absurd b
same_question (a_definition z) (Look w p) j a b = absurd a
same_question (a_definition z) (Spawn c p) j a b = absurd a
same_question (a_definition z) (Fetch t o p) j a b = absurd a
same_question (a_definition z) (TaskFull p) j a b = absurd a
same_question (a_definition z) (Del s p) j a b = absurd a
same_question (a_definition z) (Absent s p) j a b = absurd a
same_question (a_deletion z) (Del s p) (Del u r) a b = a ∙ sym b
same_question (a_deletion z) (Del s p) (Absent u r) a b = a ∙ sym b
same_question (a_deletion z) (Del s p) (WorldFull r) a b = tt
same_question (a_deletion z) (Absent s p) (Del u r) a b = a ∙ sym b
same_question (a_deletion z) (Absent s p) (Absent u r) a b = a ∙ sym b
same_question (a_deletion z) (Absent s p) (WorldFull r) a b = tt
same_question (a_deletion z) (WorldFull p) (Del u r) a b = tt
same_question (a_deletion z) (WorldFull p) (Absent u r) a b = tt
same_question (a_deletion z) (WorldFull p) (WorldFull r) a b = tt
same_question (a_deletion z) (Del s p) (Look v r) a b = absurd b
same_question (a_deletion z) (Del s p) (Def u r) a b = absurd b
same_question (a_deletion z) (Del s p) (Spawn c r) a b = absurd b
same_question (a_deletion z) (Del s p) (Fetch t o r) a b = absurd b
same_question (a_deletion z) (Del s p) (TaskFull r) a b = absurd b
same_question (a_deletion z) (Absent s p) (Look v r) a b = absurd b
same_question (a_deletion z) (Absent s p) (Def u r) a b = absurd b
same_question (a_deletion z) (Absent s p) (Spawn c r) a b = absurd b
same_question (a_deletion z) (Absent s p) (Fetch t o r) a b = absurd b
same_question (a_deletion z) (Absent s p) (TaskFull r) a b = absurd b
same_question (a_deletion z) (WorldFull p) (Look v r) a b = absurd b
same_question (a_deletion z) (WorldFull p) (Def u r) a b = absurd b
same_question (a_deletion z) (WorldFull p) (Spawn c r) a b = absurd b
same_question (a_deletion z) (WorldFull p) (Fetch t o r) a b = absurd b
same_question (a_deletion z) (WorldFull p) (TaskFull r) a b = absurd b
same_question (a_deletion z) (Look w p) j a b = absurd a
same_question (a_deletion z) (Def s p) j a b = absurd a
same_question (a_deletion z) (Spawn c p) j a b = absurd a
same_question (a_deletion z) (Fetch t o p) j a b = absurd a
same_question (a_deletion z) (TaskFull p) j a b = absurd a
same_question (a_spawn z) (Spawn c p) (Spawn d r) a b = tt
same_question (a_spawn z) (Spawn c p) (TaskFull r) a b = tt
same_question (a_spawn z) (TaskFull p) (Spawn d r) a b = tt
same_question (a_spawn z) (TaskFull p) (TaskFull r) a b = tt
same_question (a_spawn z) (Spawn c p) (Look v r) a b = absurd b
same_question (a_spawn z) (Spawn c p) (Def u r) a b = absurd b
same_question (a_spawn z) (Spawn c p) (Fetch t o r) a b = absurd b
same_question (a_spawn z) (Spawn c p) (WorldFull r) a b = absurd b
same_question (a_spawn z) (Spawn c p) (Del u r) a b = absurd b
same_question (a_spawn z) (Spawn c p) (Absent u r) a b = absurd b
same_question (a_spawn z) (TaskFull p) (Look v r) a b = absurd b
same_question (a_spawn z) (TaskFull p) (Def u r) a b = absurd b
same_question (a_spawn z) (TaskFull p) (Fetch t o r) a b = absurd b
same_question (a_spawn z) (TaskFull p) (WorldFull r) a b = absurd b
same_question (a_spawn z) (TaskFull p) (Del u r) a b = absurd b
same_question (a_spawn z) (TaskFull p) (Absent u r) a b = absurd b
same_question (a_spawn z) (Look w p) j a b = absurd a
same_question (a_spawn z) (Def s p) j a b = absurd a
same_question (a_spawn z) (Fetch t o p) j a b = absurd a
same_question (a_spawn z) (WorldFull p) j a b = absurd a
same_question (a_spawn z) (Del s p) j a b = absurd a
same_question (a_spawn z) (Absent s p) j a b = absurd a
same_question (a_fetch z) (Fetch t o p) (Fetch u v r) a b = a ∙ sym b
same_question (a_fetch z) (Fetch t o p) (Look v r) a b = absurd b
same_question (a_fetch z) (Fetch t o p) (Def u r) a b = absurd b
same_question (a_fetch z) (Fetch t o p) (Spawn c r) a b = absurd b
same_question (a_fetch z) (Fetch t o p) (WorldFull r) a b = absurd b
same_question (a_fetch z) (Fetch t o p) (TaskFull r) a b = absurd b
same_question (a_fetch z) (Fetch t o p) (Del u r) a b = absurd b
same_question (a_fetch z) (Fetch t o p) (Absent u r) a b = absurd b
same_question (a_fetch z) (Look w p) j a b = absurd a
same_question (a_fetch z) (Def s p) j a b = absurd a
same_question (a_fetch z) (Spawn c p) j a b = absurd a
same_question (a_fetch z) (WorldFull p) j a b = absurd a
same_question (a_fetch z) (TaskFull p) j a b = absurd a
same_question (a_fetch z) (Del s p) j a b = absurd a
same_question (a_fetch z) (Absent s p) j a b = absurd a

-- where a run goes on there, with an item that is told or at the question itself
goes_on : (u : Option Question) (q : Question) (i : TraceItem) (left : List TraceItem) → IsAnswerTo q i → (Begins i left → ⊥) → GoesOnFrom u q left → (left ≡ []) × halts u q
goes_on u q i [] a far g = (refl, g)
goes_on u q i (y ∷ left) a far g = absurd (far (same_question q i y a g))

cancel : (xs ys zs : List TraceItem) → xs ++ ys ≡ xs ++ zs → ys ≡ zs
cancel [] ys zs e = e
cancel (x ∷ xs) ys zs e = cancel xs ys zs (ap (drop 1) e)

cancel_starts : (xs ys zs : List Start) → xs ++ ys ≡ xs ++ zs → ys ≡ zs
cancel_starts [] ys zs e = e
cancel_starts (x ∷ xs) ys zs e = cancel_starts xs ys zs (ap (drop 1) e)

learnt_last : (k : Knows) (before : List TraceItem) (i : TraceItem) → AllLearnt k (before ++ i ∷ []) → k.learnt i
learnt_last k [] i h = h.0
learnt_last k (x ∷ before) i h = learnt_last k before i h.1

-- all items were told, or some are left
pub none_left : (more : Bool) (told : ℕ) (is : List TraceItem) → more ≡ false → IsTrue more ↔ (told < length is) → drop told is ≡ []
none_left true told is f h = absurd cc
none_left false told is f h = none (le-or-lt told is)
  where
    le-or-lt : (n : ℕ) (xs : List TraceItem) → (drop n xs ≡ []) ⊎ (n < length xs)
    le-or-lt zero [] = inl refl
    le-or-lt (suc n) [] = inl refl
    le-or-lt zero (x ∷ xs) = inr (omega arith)
    le-or-lt (suc n) (x ∷ xs) = deeper (le-or-lt n xs)
      where
        deeper : (drop n xs ≡ []) ⊎ (n < length xs) → (drop (suc n) (x ∷ xs) ≡ []) ⊎ (suc n < length (x ∷ xs))
        deeper (inl e) = inl e
        deeper (inr l) = inr (omega (arith, l))

    none : (drop told is ≡ []) ⊎ (told < length is) → drop told is ≡ []
    none (inl e) = e
    none (inr l) = absurd (cc (h.1 l))

pub some_left : (more : Bool) (told : ℕ) (is : List TraceItem) → more ≡ true → IsTrue more ↔ (told < length is) → drop told is ≡ [] → ⊥
some_left more told is t h e =
    let lt = h.0 t in let n = length-drop told is in let z : length (drop told is) ≡ 0 = ap length e in absurd (omega (arith, lt, n, z))

-- ---- a task that goes on alone

module _ (P : Program) (m0 : Machine) (d0 : Led) (m : Machine) (d : Led) (a : IsAway P m0 d0 m d) where
  abbrev es : List Event
  es = d0.past.1

  abbrev task : ℕ
  task = d0.task

  abbrev made : List Event
  made = a.made.0

  abbrev by : AreMadeBy task es made
  by = a.made.1

  abbrev fitted : IsAt P (fuel_of m) (knows_of d) m.work m.task
  fitted = machine_at P (fuel_of m) (knows_of d) m a.stays.going a.stays.fits

  own_item : own_items (a.item ∷ []) ≡ own_events task (length es) made
  own_item =
      cancel (own_items a.before) (own_items (a.item ∷ [])) (own_events task (length es) made)
      (sym (own_more a.before a.item)
      ∙ ap own_items (sym a.trace)
      ∙ fitted.fits.own
      ∙ (λ i. own_events (a.stays.task i) 0 (a.made.2 i))
      ∙ own_later task es made
      ∙ ap (λ xs. xs ++ own_events task (length es) made) (sym a.own_before))

  -- no run has the whole trace
  pub away_no_run : IsNoRun P es task (fuel_of m0) (whole_trace m0 d0)
  away_no_run xs g o out n starts run =
      let e : Ending = record { outcome = o; output = out; calls = n; starts = starts } in
      (goes_on None a.question a.item (left_of d) a.answers a.apart
      (a.asks.goes (record { events = xs; until = None }) g (left_of d) e (subst (λ t. RunsSo P es task xs (fuel_of m0) t o out n starts) (sym a.followed) run))).1

  -- a run comes with the whole trace to what was asked alone, and there is nothing left then
  comes_only : (xs : List Event) → GoesOn es xs → (q : Question) → ComesTo P es task xs (fuel_of m0) (whole_trace m0 d0) q → (left_of d ≡ []) × (q ≡ a.question)
  comes_only xs g q comes =
      let e : Ending = record { outcome = O.Value V.Nothing; output = []; calls = 0; starts = [] } in
      goes_on (Some q) a.question a.item (left_of d) a.answers a.apart
      (a.asks.goes (record { events = xs; until = Some q }) g (left_of d) e (subst (λ t. RunsTo (job_with P (fuel_of m0) (knows_of d0)) (record { events = xs; until = Some q }) t e) (sym a.followed) (comes (O.Value V.Nothing) [] 0 [])))

  all_told : left_of d ≡ [] → a.before ≡ whole_trace m0 d0
  all_told e = sym (append-nil a.before) ∙ ap (λ xs. a.before ++ xs) (sym e) ∙ a.followed

  comes_there : left_of d ≡ [] → (xs : List Event) → GoesOn es xs → (q : Question) → a.question ≡ q → ComesTo P es task xs (fuel_of m0) (whole_trace m0 d0) q
  comes_there e xs g q same = subst (λ (z : Question × List TraceItem). ComesTo P es task xs (fuel_of m0) z.1 z.0) (λ i. (same i, all_told e i)) (a.asks.comes xs g)

  -- ---- to a definition

  def_item : (site : ℕ) → made ≡ Ev.Def task site ∷ [] → a.item ≡ Def site (length es)
  def_item site e = at a.item (own_item ∙ ap (own_events task (length es)) e ∙ own_made_def task (length es) site)
    where
      at : (i : TraceItem) → own_items (i ∷ []) ≡ Def site (length es) ∷ [] → i ≡ Def site (length es)
      at (Def s p) h = cc (h)
      at (Look w p) h = absurd (cc (h))
      at (Spawn c p) h = absurd (cc (h))
      at (Fetch t o p) h = absurd (cc (h))
      at (WorldFull p) h = absurd (cc (h))
      at (TaskFull p) h = absurd (cc (h))
      at (Del z p) h = absurd (cc (h))
      at (Absent z p) h = absurd (cc (h))

  def_question : (site : ℕ) → made ≡ Ev.Def task site ∷ [] → a.question ≡ a_definition site
  def_question site e = at a.question (subst (IsAnswerTo a.question) (def_item site e) a.answers)
    where
      at : (q : Question) → IsAnswerTo q (Def site (length es)) → q ≡ a_definition site
      at a_look h = absurd h
      at (a_definition s) h = ap a_definition (sym h)
      at (a_spawn s) h = absurd h
      at (a_deletion z) h = absurd h
      at (a_fetch t) h = absurd h

  -- where nothing was made and the world was not the last, it is not
  world_open : world_of es < 65535 → [] ≡ own_events task (length es) made → (p : ℕ) → (knows_of d).learnt (WorldFull p) → ⊥
  world_open room e p l =
      let none = (made_none task (length es) es made by e).0 in
      let full = (l d.past.1 (goes_self d.past.1)).1 in
      let most = first_at_most d.past.1 p in
      let same_world = ap world_of a.made.2 in
      let more = ap length (changed_append es made) in
      let len = length-append (changed es) (changed made) in
      let zero_more : length (changed made) ≡ 0 = ap length none in
      omega (arith, room, full, most, same_world, more, len, zero_more)

  -- what it asked was this definition, so it was made, where the world is not the last
  def_made : (site : ℕ) → world_of es < 65535 → a_definition site ≡ a.question → made ≡ Ev.Def task site ∷ []
  def_made site room same = at a.item (subst (λ q. IsAnswerTo q a.item) (sym same) a.answers) own_item (learnt_last (knows_of d) a.before a.item (subst (AllLearnt (knows_of d)) a.trace fitted.fits.learnt))
    where
      at : (i : TraceItem) → IsAnswerTo (a_definition site) i → own_items (i ∷ []) ≡ own_events task (length es) made → (knows_of d).learnt i → made ≡ Ev.Def task site ∷ []
      at (Def s p) h e l = (made_def task (length es) site p es made by (ap (λ z. Def z p ∷ []) (sym h) ∙ e)).0
      at (WorldFull p) h e l = absurd (world_open room e p l)
      at (Look w p) h e l = absurd h
      at (Spawn c p) h e l = absurd h
      at (Fetch t o p) h e l = absurd h
      at (TaskFull p) h e l = absurd h
      at (Del z p) h e l = absurd h
      at (Absent z p) h e l = absurd h

  pub away_definition : (site : ℕ) (answer : Bool) → world_of es < 65535 → left_of d ≡ [] → IsTrue answer ↔ IsDefAt site (slice_get d.past.1 (length es)) → TellsDefinition P es task (fuel_of m0) (whole_trace m0 d0) site answer
  away_definition site answer room none told xs g = (
    λ y. comes_there none xs g (a_definition site) (def_question site (def_there site (told.0 y))),
    λ comes. told.1 (def_at site (def_made site room (comes_only xs g (a_definition site) comes).1)),
  )
    where
      def_there : (s : ℕ) → IsDefAt s (slice_get d.past.1 (length es)) → made ≡ Ev.Def task s ∷ []
      def_there s h = is_def s task es made by (subst (IsDefAt s) (ap (λ ys. slice_get ys (length es)) a.made.2 ∙ after_es es made) h)

      def_at : (s : ℕ) → made ≡ Ev.Def task s ∷ [] → IsDefAt s (slice_get d.past.1 (length es))
      def_at s e = subst (IsDefAt s) (sym (ap (λ ys. slice_get ys (length es)) a.made.2 ∙ after_es es made ∙ ap (λ ys. slice_get ys 0) e)) refl

  pub away_defined : (site : ℕ) → left_of d ≡ [] → IsDefAt site (slice_get d.past.1 (length es)) → HasDefined P m0 d0 site m d
  away_defined site none h =
      let e = is_def site task es made by (subst (IsDefAt site) (ap (λ ys. slice_get ys (length es)) a.made.2 ∙ after_es es made) h) in record {
        stays = a.stays;
        events = a.made.2 ∙ ap (λ ms. es ++ ms) e;
        trace = a.trace ∙ (λ i. all_told none i ++ def_item site e i ∷ []);
      }

  -- ---- to a deletion

  del_item : (place : ℕ) → made ≡ Ev.Del task place ∷ [] → a.item ≡ Del place (length es)
  del_item place e = at a.item (own_item ∙ ap (own_events task (length es)) e ∙ own_made_del task (length es) place)
    where
      at : (i : TraceItem) → own_items (i ∷ []) ≡ Del place (length es) ∷ [] → i ≡ Del place (length es)
      at (Del s p) h = cc (h)
      at (Look w p) h = absurd (cc (h))
      at (Spawn c p) h = absurd (cc (h))
      at (Fetch t o p) h = absurd (cc (h))
      at (WorldFull p) h = absurd (cc (h))
      at (TaskFull p) h = absurd (cc (h))
      at (Def z p) h = absurd (cc (h))
      at (Absent z p) h = absurd (cc (h))

  del_question : (place : ℕ) → made ≡ Ev.Del task place ∷ [] → a.question ≡ a_deletion place
  del_question place e = at a.question (subst (IsAnswerTo a.question) (del_item place e) a.answers)
    where
      at : (q : Question) → IsAnswerTo q (Del place (length es)) → q ≡ a_deletion place
      at a_look h = absurd h
      at (a_deletion s) h = ap a_deletion (sym h)
      at (a_spawn s) h = absurd h
      at (a_definition z) h = absurd h
      at (a_fetch t) h = absurd h

  -- what it asked was this deletion, so it was made, where the world is not the last
  del_made : (place : ℕ) → world_of es < 65535 → a_deletion place ≡ a.question → made ≡ Ev.Del task place ∷ []
  del_made place room same = at a.item (subst (λ q. IsAnswerTo q a.item) (sym same) a.answers) a.told own_item (learnt_last (knows_of d) a.before a.item (subst (AllLearnt (knows_of d)) a.trace fitted.fits.learnt))
    where
      at : (i : TraceItem) → IsAnswerTo (a_deletion place) i → is_absence (Some i) ≡ false → own_items (i ∷ []) ≡ own_events task (length es) made → (knows_of d).learnt i → made ≡ Ev.Del task place ∷ []
      at (Del s p) h t e l = (made_del task (length es) place p es made by (ap (λ z. Del z p ∷ []) (sym h) ∙ e)).0
      at (WorldFull p) h t e l = absurd (world_open room e p l)
      at (Absent z p) h t e l = absurd (cc (t))
      at (Look w p) h t e l = absurd h
      at (Spawn c p) h t e l = absurd h
      at (Fetch u o p) h t e l = absurd h
      at (TaskFull p) h t e l = absurd h
      at (Def z p) h t e l = absurd h

  pub away_deletion : (place : ℕ) (answer : Bool) → world_of es < 65535 → left_of d ≡ [] → IsTrue answer ↔ IsDelAt place (slice_get d.past.1 (length es)) → TellsDeletion P es task (fuel_of m0) (whole_trace m0 d0) place answer
  away_deletion place answer room none told xs g = (
    λ y. comes_there none xs g (a_deletion place) (del_question place (del_there place (told.0 y))),
    λ comes. told.1 (del_at place (del_made place room (comes_only xs g (a_deletion place) comes).1)),
  )
    where
      del_there : (s : ℕ) → IsDelAt s (slice_get d.past.1 (length es)) → made ≡ Ev.Del task s ∷ []
      del_there s h = is_del s task es made by (subst (IsDelAt s) (ap (λ ys. slice_get ys (length es)) a.made.2 ∙ after_es es made) h)

      del_at : (s : ℕ) → made ≡ Ev.Del task s ∷ [] → IsDelAt s (slice_get d.past.1 (length es))
      del_at s e = subst (IsDelAt s) (sym (ap (λ ys. slice_get ys (length es)) a.made.2 ∙ after_es es made ∙ ap (λ ys. slice_get ys 0) e)) refl

  pub away_deleted : (place : ℕ) → left_of d ≡ [] → IsDelAt place (slice_get d.past.1 (length es)) → HasDeleted P m0 d0 place m d
  away_deleted place none h =
      let e = is_del place task es made by (subst (IsDelAt place) (ap (λ ys. slice_get ys (length es)) a.made.2 ∙ after_es es made) h) in record {
        stays = a.stays;
        events = a.made.2 ∙ ap (λ ms. es ++ ms) e;
        trace = a.trace ∙ (λ i. all_told none i ++ del_item place e i ∷ []);
      }

  -- ---- to a spawn

  spawn_item : (start : Start) → made ≡ Ev.Spawn task (tasks_of es) start ∷ [] → a.item ≡ Spawn (tasks_of es) (length es)
  spawn_item start e = at a.item (own_item ∙ ap (own_events task (length es)) e ∙ own_made_spawn task (length es) (tasks_of es) start)
    where
      at : (i : TraceItem) → own_items (i ∷ []) ≡ Spawn (tasks_of es) (length es) ∷ [] → i ≡ Spawn (tasks_of es) (length es)
      at (Spawn c p) h = cc (h)
      at (Def s p) h = absurd (cc (h))
      at (Look w p) h = absurd (cc (h))
      at (Fetch t o p) h = absurd (cc (h))
      at (WorldFull p) h = absurd (cc (h))
      at (TaskFull p) h = absurd (cc (h))
      at (Del z p) h = absurd (cc (h))
      at (Absent z p) h = absurd (cc (h))

  spawn_question : (start : Start) → made ≡ Ev.Spawn task (tasks_of es) start ∷ [] → a.question ≡ a_spawn start
  spawn_question start e = at a.question (subst (IsAnswerTo a.question) (spawn_item start e) a.answers) (subst (λ i. StartsJoin a.question i (own_starts task es) (own_starts d.task d.past.1)) (spawn_item start e) a.joins)
    where
      starts_then : own_starts d.task d.past.1 ≡ own_starts task es ++ start ∷ []
      starts_then =
          (λ i. own_starts (a.stays.task i) (a.made.2 i)) ∙ starts_append task es made ∙ ap (λ ms. own_starts task es ++ own_starts task ms) e
          ∙ ap (λ b. own_starts task es ++ cond b (start ∷ []) []) (self_eq task)

      at : (q : Question) → IsAnswerTo q (Spawn (tasks_of es) (length es)) → StartsJoin q (Spawn (tasks_of es) (length es)) (own_starts task es) (own_starts d.task d.past.1) → q ≡ a_spawn start
      at a_look h j = absurd h
      at (a_definition s) h j = absurd h
      at (a_spawn s) h j = let one : s ∷ [] ≡ start ∷ [] = cancel_starts (own_starts task es) (s ∷ []) (start ∷ []) (sym j ∙ starts_then) in ap a_spawn (cc (one))
      at (a_deletion z) h j = absurd h
      at (a_fetch t) h j = absurd h

  -- what it asked was a spawn from this start, so the task was started, where there is room
  spawn_made : (start : Start) → tasks_of es < 4096 → a_spawn start ≡ a.question → (s : Start) × (made ≡ Ev.Spawn task (tasks_of es) s ∷ [])
  spawn_made start room same = at a.item (subst (λ q. IsAnswerTo q a.item) (sym same) a.answers) own_item (learnt_last (knows_of d) a.before a.item (subst (AllLearnt (knows_of d)) a.trace fitted.fits.learnt))
    where
      tasks_first : (ys : List Event) (p : ℕ) → tasks_of (take p ys) ≤ tasks_of ys
      tasks_first [] zero = omega arith
      tasks_first [] (suc p) = omega arith
      tasks_first (Ev.Spawn t c s ∷ ys) zero = omega arith
      tasks_first (Ev.Begin fuel ∷ ys) zero = tasks_first ys zero
      tasks_first (Ev.Key key ∷ ys) zero = tasks_first ys zero
      tasks_first (Ev.Fill key z first ∷ ys) zero = tasks_first ys zero
      tasks_first (Ev.Def t z ∷ ys) zero = tasks_first ys zero
      tasks_first (Ev.Del t z ∷ ys) zero = tasks_first ys zero
      tasks_first (Ev.Done t ended ∷ ys) zero = tasks_first ys zero
      tasks_first (Ev.Spawn t c s ∷ ys) (suc p) = let k = tasks_first ys p in omega (arith, k)
      tasks_first (Ev.Begin fuel ∷ ys) (suc p) = tasks_first ys p
      tasks_first (Ev.Key key ∷ ys) (suc p) = tasks_first ys p
      tasks_first (Ev.Fill key z first ∷ ys) (suc p) = tasks_first ys p
      tasks_first (Ev.Def t z ∷ ys) (suc p) = tasks_first ys p
      tasks_first (Ev.Del t z ∷ ys) (suc p) = tasks_first ys p
      tasks_first (Ev.Done t ended ∷ ys) (suc p) = tasks_first ys p

      at : (i : TraceItem) → IsAnswerTo (a_spawn start) i → own_items (i ∷ []) ≡ own_events task (length es) made → (knows_of d).learnt i → (s : Start) × (made ≡ Ev.Spawn task (tasks_of es) s ∷ [])
      at (Spawn c p) h e l = let w = made_spawn task (length es) c p es made by e in (w.0, w.1)
      at (TaskFull p) h e l =
          let none = (made_none task (length es) es made by e).1 in
          let full = (l d.past.1 (goes_self d.past.1)).1 in
          let most = tasks_first d.past.1 p in
          let same_tasks = ap tasks_of a.made.2 in
          let more = tasks_append es made in
          absurd (omega (arith, room, full, most, same_tasks, more, none))
      at (Look w p) h e l = absurd h
      at (Def s p) h e l = absurd h
      at (Fetch t o p) h e l = absurd h
      at (WorldFull p) h e l = absurd h
      at (Del z p) h e l = absurd h
      at (Absent z p) h e l = absurd h

  spawn_there : (place : ℕ) → IsSpawnAt place (slice_get d.past.1 (length es)) → (start : Start) × (made ≡ Ev.Spawn task (tasks_of es) start ∷ []) × (start.spawn ≡ place)
  spawn_there place h = is_spawn place task es made by (subst (IsSpawnAt place) (ap (λ ys. slice_get ys (length es)) a.made.2 ∙ after_es es made) h)

  spawn_at : (place : ℕ) (s : Start) → made ≡ Ev.Spawn task (tasks_of es) s ∷ [] → s.spawn ≡ place → IsSpawnAt place (slice_get d.past.1 (length es))
  spawn_at place s e h = subst (IsSpawnAt place) (sym (ap (λ ys. slice_get ys (length es)) a.made.2 ∙ after_es es made ∙ ap (λ ys. slice_get ys 0) e)) h

  -- a run comes to a spawn from one start alone
  spawn_only : (s start : Start) → made ≡ Ev.Spawn task (tasks_of es) start ∷ [] → a_spawn s ≡ a.question → s ≡ start
  spawn_only s start e same = let one : a_spawn s ≡ a_spawn start = same ∙ spawn_question start e in cc (one)

  pub away_spawn : (place : ℕ) (answer : Bool) → tasks_of es < 4096 → left_of d ≡ [] → IsTrue answer ↔ IsSpawnAt place (slice_get d.past.1 (length es)) → TellsSpawn P es task (fuel_of m0) (whole_trace m0 d0) place answer
  away_spawn place answer room none told xs g = (
    λ y. (let w = spawn_there place (told.0 y) in (w.0, w.2, comes_there none xs g (a_spawn w.0) (spawn_question w.0 w.1))),
    λ (s, at_place, comes).
        let same = (comes_only xs g (a_spawn s) comes).1 in
        let w = spawn_made s room same in
        told.1 (spawn_at place w.0 w.1 (ap (λ z. z.spawn) (sym (spawn_only s w.0 w.1 same)) ∙ at_place)),
  )

  pub away_spawned : (place : ℕ) → left_of d ≡ [] → IsSpawnAt place (slice_get d.past.1 (length es)) → HasSpawned P m0 d0 place m d
  away_spawned place none h =
      let w = spawn_there place h in record {
        stays = a.stays;
        start = w.0;
        events = a.made.2 ∙ ap (λ ms. es ++ ms) w.1;
        trace = a.trace ∙ (λ i. all_told none i ++ spawn_item w.0 w.1 i ∷ []);
        at = w.2;
        only = λ xs g s comes. spawn_only s w.0 w.1 (comes_only xs g (a_spawn s) comes).1;
      }

  -- ---- where something is left

  -- it comes to no question
  pub away_before : (left_of d ≡ [] → ⊥) → (xs : List Event) → GoesOn es xs → (q : Question) → ComesTo P es task xs (fuel_of m0) (whole_trace m0 d0) q → ⊥
  away_before some xs g q comes = some (comes_only xs g q comes).0

  pub away_no_definition : (site : ℕ) → (left_of d ≡ [] → ⊥) → TellsDefinition P es task (fuel_of m0) (whole_trace m0 d0) site false
  away_no_definition site some xs g = (λ y. absurd (cc (y)), λ comes. absurd (away_before some xs g (a_definition site) comes))

  pub away_no_deletion : (place : ℕ) → (left_of d ≡ [] → ⊥) → TellsDeletion P es task (fuel_of m0) (whole_trace m0 d0) place false
  away_no_deletion place some xs g = (λ y. absurd (cc (y)), λ comes. absurd (away_before some xs g (a_deletion place) comes))

  pub away_no_spawn : (place : ℕ) → (left_of d ≡ [] → ⊥) → TellsSpawn P es task (fuel_of m0) (whole_trace m0 d0) place false
  away_no_spawn place some xs g = (λ y. absurd (cc (y)), λ (s, at_place, comes). absurd (away_before some xs g (a_spawn s) comes))

  -- ---- the same, by what the code looks at

  module _ (events : List Event) (place : ℕ) (events_are : events ≡ d.past.1) (place_is : place ≡ length es) (none : left_of d ≡ []) where
    at_place : (Q : Option Event → Type 0) → Q (slice_get events place) → Q (slice_get d.past.1 (length es))
    at_place Q h = subst Q (λ i. slice_get (events_are i) (place_is i)) h

    from_place : (Q : Option Event → Type 0) → Q (slice_get d.past.1 (length es)) → Q (slice_get events place)
    from_place Q h = subst Q (λ i. slice_get (sym events_are i) (sym place_is i)) h

    pub looked_definition : (site : ℕ) (answer : Bool) → world_of es < 65535 → IsTrue answer ↔ IsDefAt site (slice_get events place) → TellsDefinition P es task (fuel_of m0) (whole_trace m0 d0) site answer
    looked_definition site answer room told = away_definition site answer room none (λ y. at_place (IsDefAt site) (told.0 y), λ h. told.1 (from_place (IsDefAt site) h))

    pub looked_defined : (site : ℕ) (answer : Bool) → IsTrue answer ↔ IsDefAt site (slice_get events place) → IsTrue answer → HasDefined P m0 d0 site m d
    looked_defined site answer told y = away_defined site none (at_place (IsDefAt site) (told.0 y))

    pub looked_deletion : (made_at : ℕ) (answer : Bool) → world_of es < 65535 → IsTrue answer ↔ IsDelAt made_at (slice_get events place) → TellsDeletion P es task (fuel_of m0) (whole_trace m0 d0) made_at answer
    looked_deletion made_at answer room told = away_deletion made_at answer room none (λ y. at_place (IsDelAt made_at) (told.0 y), λ h. told.1 (from_place (IsDelAt made_at) h))

    pub looked_deleted : (made_at : ℕ) (answer : Bool) → IsTrue answer ↔ IsDelAt made_at (slice_get events place) → IsTrue answer → HasDeleted P m0 d0 made_at m d
    looked_deleted made_at answer told y = away_deleted made_at none (at_place (IsDelAt made_at) (told.0 y))

    pub looked_spawn : (spawn : ℕ) (answer : Bool) → tasks_of es < 4096 → IsTrue answer ↔ IsSpawnAt spawn (slice_get events place) → TellsSpawn P es task (fuel_of m0) (whole_trace m0 d0) spawn answer
    looked_spawn spawn answer room told = away_spawn spawn answer room none (λ y. at_place (IsSpawnAt spawn) (told.0 y), λ h. told.1 (from_place (IsSpawnAt spawn) h))

    pub looked_spawned : (spawn : ℕ) (answer : Bool) → IsTrue answer ↔ IsSpawnAt spawn (slice_get events place) → IsTrue answer → HasSpawned P m0 d0 spawn m d
    looked_spawned spawn answer told y = away_spawned spawn none (at_place (IsSpawnAt spawn) (told.0 y))

-- ---- a task that has ended

module _ (P : Program) (m0 : Machine) (d0 : Led) (m : Machine) (d : Led) (t : IsThere P m0 d0 m d) (ended : IsEnded m) where
  abbrev over_es : List Event
  over_es = d0.past.1

  job_then : job_with P (fuel_of m) (knows_of d) ≡ job_with P (fuel_of m0) (knows_of d0)
  job_then = λ i. record { program = P; start = start_of (t.stays.task i) (t.events i); places = None; fuel = t.stays.fuel i }

  ended_fits : FitsWith (job_with P (fuel_of m0) (knows_of d0)) (knows_of d) (W.Ended m.task.now.outcome) (progress_of m.task)
  ended_fits =
      let a = machine_at P (fuel_of m) (knows_of d) m t.stays.going t.stays.fits in
      subst (λ j. FitsWith j (knows_of d) (W.Ended m.task.now.outcome) (progress_of m.task)) job_then
      (subst (λ w. FitsWith (job_with P (fuel_of m) (knows_of d)) (knows_of d) (work_of w m.task.now) (progress_of m.task)) ended a.fits)

  goes_then : (xs : List Event) → GoesOn over_es xs → GoesOn d.past.1 xs
  goes_then xs g = subst (λ ys. GoesOn ys xs) (sym t.events) g

  -- it comes to no question: a run has one end
  pub ended_before : (xs : List Event) → GoesOn over_es xs → (q : Question) → ComesTo P over_es d0.task xs (fuel_of m0) (whole_trace m0 d0) q → ⊥
  ended_before xs g q comes = cc (one (O.Value V.Nothing) ∙ sym (one (O.Value (V.Bool true))))
    where
      one : (o : Outcome) → o ≡ m.task.now.outcome
      one o =
          let x : Over = record { events = xs; until = Some q } in
          let e : Ending = record { outcome = o; output = []; calls = 0; starts = [] } in
          let end = (ended_fits.runs x (goes_then xs g) (left_of d) e).0 (subst (λ ts. RunsTo (job_with P (fuel_of m0) (knows_of d0)) x ts e) (sym t.followed) (comes o [] 0 [])) in
          sym end.is

  pub ended_definition : (site : ℕ) → TellsDefinition P over_es d0.task (fuel_of m0) (whole_trace m0 d0) site false
  ended_definition site xs g = (λ y. absurd (cc (y)), λ comes. absurd (ended_before xs g (a_definition site) comes))

  pub ended_deletion : (place : ℕ) → TellsDeletion P over_es d0.task (fuel_of m0) (whole_trace m0 d0) place false
  ended_deletion place xs g = (λ y. absurd (cc (y)), λ comes. absurd (ended_before xs g (a_deletion place) comes))

  pub ended_spawn : (place : ℕ) → TellsSpawn P over_es d0.task (fuel_of m0) (whole_trace m0 d0) place false
  ended_spawn place xs g = (λ y. absurd (cc (y)), λ (s, at_place, comes). absurd (ended_before xs g (a_spawn s) comes))

  -- ---- its record

  module _ (r : Record) (h : HasEnded r m) where
    ran : IsRunOf (job_with P (fuel_of m0) (knows_of d0)) (knows_of d) r
    ran = subst (λ j. IsRunOf j (knows_of d) r) job_then (ended_law (knows_of d) P (fuel_of m) m r t.stays.fits h)

    whole_then : r.trace ++ left_of d ≡ whole_trace m0 d0
    whole_then = ap (λ ts. ts ++ left_of d) (sym h.trace) ∙ t.followed

    starts_then : (knows_of d).starts ≡ own_starts d0.task over_es
    starts_then = λ i. own_starts (t.stays.task i) (t.events i)

    pub ended_run : left_of d ≡ [] → IsTheRun P over_es d0.task (fuel_of m0) (whole_trace m0 d0) r
    ended_run none =
        let told : r.trace ≡ whole_trace m0 d0 = sym (append-nil r.trace) ∙ ap (λ ts. r.trace ++ ts) (sym none) ∙ whole_then in record {
          trace_is = told;
          exactly = λ xs g o out made starts. (
            λ run.
                let w = ran.only xs (goes_then xs g) [] o out made starts (subst (λ ts. RunsSo P over_es d0.task xs (fuel_of m0) ts o out made starts) (sym (append-nil r.trace ∙ told)) run) in
                (w.1, w.2, w.3, w.4 ∙ starts_then),
            λ (a, b, c, e).
                subst (λ (z : ((List TraceItem × Outcome) × List ℕ) × (ℕ × List Start)). RunsSo P over_es d0.task xs (fuel_of m0) z.0.0.0 z.0.0.1 z.0.1 z.1.0 z.1.1)
                (λ i. (((told i, sym a i), sym b i), (sym c i, (starts_then ∙ sym e) i))) (ran.runs xs (goes_then xs g)),
          );
        }

    -- its outcome is valid
    pub ended_valid : IsValidOutcome P r.outcome
    ended_valid = subst (IsValidOutcome P) (same (ap (λ w. work_of w m.task.now) (sym ended) ∙ h.work)) ended_fits.good.1.work
      where
        same : W.Ended m.task.now.outcome ≡ W.Ended r.outcome → m.task.now.outcome ≡ r.outcome
        same e = cc

  -- some of the trace is left: no run has it whole
  pub ended_no_run : (left_of d ≡ [] → ⊥) → IsNoRun P over_es d0.task (fuel_of m0) (whole_trace m0 d0)
  ended_no_run some xs g o out made starts run =
      let r : Record = record { trace = m.task.trace; outcome = m.task.now.outcome; output = m.task.now.out; calls = m.task.calls } in
      let h : HasEnded r m = record { work = ap (λ w. work_of w m.task.now) ended; trace = refl; out = refl; calls = refl } in
      some ((ran r h).only xs (goes_then xs g) (left_of d) o out made starts (subst (λ ts. RunsSo P over_es d0.task xs (fuel_of m0) ts o out made starts) (sym (whole_then r h)) run)).0
