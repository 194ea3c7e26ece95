-- Definitions and spawns that the run of their task does not come to, led by its trace: such a history is not legal, and this is
-- seen at the event, before the end of the task.
use Rattle.std.proofs.Common.{◌≡◌, ◌∙◌, refl, ap, sym, subst, ℕ, Bool, true, false, true≢false, List, [], ◌∷◌, Option, Some, None, arith}
use Rattle.jl_program.specs.declared.fault.Fault.TheVariants as Fa
use Rattle.jl_program.specs.declared.tree.Expr.TheOpen as F
use Rattle.jl_program.specs.declared.tree.Expr.TheVariants as E
use Rattle.jl_program.specs.declared.tree.Expr.TheViews as X
use Rattle.jl_program.specs.declared.tree.Item.TheVariants as I
use Rattle.jl_program.specs.declared.tree.Program.{Program}
use Rattle.jl_program.specs.declared.value.Value.TheVariants as V
use Rattle.jl_program.specs.Prelude.{prelude_functions, prelude_sites}
use Rattle.jl_program.proofs.FirstProgram.{P}
use Rattle.jl_calculus.specs.declared.history.Event.{Event}
use Rattle.jl_calculus.specs.declared.history.Event.TheVariants as Ev
use Rattle.jl_calculus.specs.declared.history.Outcome.{Outcome}
use Rattle.jl_calculus.specs.declared.history.Outcome.TheVariants as O
use Rattle.jl_calculus.specs.declared.history.TraceItem.{TraceItem}
use Rattle.jl_calculus.specs.declared.history.TraceItem.TheVariants.{Look, Def, Spawn}
use Rattle.jl_calculus.specs.Led.{IsLedTo}
use Rattle.jl_calculus.specs.Run.{Question, a_look, a_definition, a_deletion, a_spawn, a_fetch, Setting, State, Then, Caller, IsEnd, Comes, calls, runs_item, spawns, binds, first_state, open_calls}
use Rattle.jl_calculus.proofs.Forms.{form_is, item_form_is}
use Rattle.jl_calculus.proofs.StopExamples.{looked, comes_to_f, to_no_other, not_at_once}
use Rattle.jl_calculus.proofs.TaskScripts.{failing, start}
use Rattle.jl_calculus.proofs.WorldScripts.{bare}

-- ---- a definition: `f(x) = x + 1`, and then `println(f(2))`

abbrev begun : List Event
begun = Ev.Begin 10 ∷ []

abbrev or_zero : Option ℕ → ℕ
or_zero None = 0
or_zero (Some n) = n

-- each task has this trace
abbrev each : List TraceItem → ℕ → List TraceItem
each trace task = trace

led_to_f : IsLedTo P begun (each (Look 14 1 ∷ Def 14 1 ∷ Look 15 2 ∷ [])) (Ev.Def 0 14)
led_to_f fuel e = subst (λ (n : ℕ). Comes P begun None n None looked (a_definition 14)) (ap or_zero e) (comes_to_f begun)

-- the definition of another site
no_other_site : IsLedTo P begun (each (Look 14 1 ∷ Def 15 1 ∷ Look 15 2 ∷ [])) (Ev.Def 0 15) → ⊥
no_other_site h = to_no_other begun (h 10 refl)

-- a trace without the look before it
no_missing_look : IsLedTo P begun (each (Def 14 1 ∷ Look 15 2 ∷ [])) (Ev.Def 0 14) → ⊥
no_missing_look h = not_at_once begun (h 10 refl)

-- ---- a spawn: `t = Threads.@spawn div(1, 0)`, and then `fetch(t)`

module _ (es : List Event) (question : Question) (outcome : Outcome) where
  abbrev g : Setting
  g = record { program = failing; events = es; places = None; fuel = 10; until = Some question }

  abbrev Ends : Outcome → State → Type 0
  Ends = IsEnd outcome [] 0 []

  abbrev called : Caller
  called = calls g Ends open_calls

  abbrev end : Then
  end = λ v s. Ends (O.Value v) s

  abbrev later : Then
  later = λ v s. runs_item g Ends called (I.Do (X.Fetch (E.Local 0))) s end end

  abbrev bound : Then
  bound = λ v s. later v (binds s 0 v)

  -- what the first item asks after its look
  abbrev asks : Type 0
  asks = spawns g Ends [] (start 14) (bare [] 0) bound

  first_is : runs_item g Ends called (I.Bind 0 (E.Spawn 0)) (first_state looked) end later ≡ asks
  first_is =
      item_form_is g Ends called (I.Bind 0 (E.Spawn 0)) (F.Item::Bind 0 (E.Spawn 0)) (X.outs-Item::Bind 0 (E.Spawn 0)) (first_state looked) end later
      ∙ form_is g Ends called (E.Spawn 0) (F.Spawn 0) (X.outs-Spawn 0) 14 (bare [] 0) end bound

-- the run asks for a task from this start, and for nothing else
asked : (es : List Event) (question : Question) → Comes failing es None 10 None looked question → question ≡ a_spawn (start 14)
asked es question h =
    let o : Outcome = O.Value V.Nothing in
    subst (λ (A : Type 0). A) (first_is es question o) (h o [] 0 []).ran

abbrev spawn_trace : ℕ → List TraceItem
spawn_trace child = Look 14 1 ∷ Spawn child 1 ∷ []

abbrev is_spawn : Question → Bool
is_spawn a_look = false
is_spawn (a_definition site) = false
is_spawn (a_deletion place) = false
is_spawn (a_spawn from) = true
is_spawn (a_fetch task) = false

abbrev place_asked : Question → ℕ
place_asked a_look = 0
place_asked (a_definition site) = 0
place_asked (a_deletion place) = 0
place_asked (a_spawn from) = from.spawn
place_asked (a_fetch task) = 0

abbrev world_asked : Question → ℕ
world_asked a_look = 0
world_asked (a_definition site) = 0
world_asked (a_deletion place) = 0
world_asked (a_spawn from) = from.world
world_asked (a_fetch task) = 0

-- a definition where the run asks for a task
no_def_for_spawn : IsLedTo failing begun (each (Look 14 1 ∷ Def 14 1 ∷ [])) (Ev.Def 0 14) → ⊥
no_def_for_spawn h = true≢false (sym (ap is_spawn (asked begun (a_definition 14) (h 10 refl))))

-- a spawn at another place, and one from another world
no_other_place : IsLedTo failing begun (each (spawn_trace 1)) (Ev.Spawn 0 1 (record { spawn = 1; env = []; bindings = []; world = 14 })) → ⊥
no_other_place h = absurd (omega (arith, ap place_asked (asked begun (a_spawn (record { spawn = 1; env = []; bindings = []; world = 14 })) (h 10 refl))))

no_other_world : IsLedTo failing begun (each (spawn_trace 1)) (Ev.Spawn 0 1 (start 13)) → ⊥
no_other_world h = absurd (omega (arith, ap world_asked (asked begun (a_spawn (start 13)) (h 10 refl))))

-- ---- a run that has ended comes to nothing

abbrev empty : Program
empty = record { decls = []; functions = prelude_functions; sites = prelude_sites; spawns = []; deletes = []; top = [] }

abbrev is_value : Outcome → Bool
is_value (O.Value v) = true
is_value (O.Error e) = false

nothing_left : (question : Question) → Comes empty begun None 10 None [] question → ⊥
nothing_left question h = let r = (h (O.Error Fa.StackLimit) [] 0 []).ran in true≢false (ap is_value r.is)

no_def_after_end : IsLedTo empty begun (each (Def 14 1 ∷ [])) (Ev.Def 0 14) → ⊥
no_def_after_end h = nothing_left (a_definition 14) (h 10 refl)
