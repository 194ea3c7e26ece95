-- The event by which a task makes a change: it names no key, and starts and ends no task.
use Rattle.std.proofs.Common.{◌≡◌, ◌∙◌, ap, sym, subst, refl, ℕ, zero, suc, ◌<◌, arith, List, [], ◌∷◌, length, slice_get, None, Some}
use Rattle.jl_model.specs.declared.limits.TheConstants.{MOST_WORLDS}
use Rattle.jl_program.specs.declared.tree.Delete.{Delete}
use Rattle.jl_program.specs.declared.tree.Program.{Program}
use Rattle.jl_calculus.specs.declared.history.Change.{Change}
use Rattle.jl_calculus.specs.declared.history.Change.TheVariants as Ch
use Rattle.jl_calculus.specs.declared.history.Event.{Event}
use Rattle.jl_calculus.specs.declared.history.Record.{Record}
use Rattle.jl_calculus.specs.Legal.{IsChange, IsRunning, MayBeMade, MayCome, OnDone}
use Rattle.jl_calculus.specs.Past.{tasks_of, done_of}
use Rattle.jl_calculus.specs.Ranges.{keys_of}
use Rattle.jl_calculus.specs.ValidHistory.{IsValidEvent}
use Rattle.jl_calculus.specs.World.{change_event, world_of, HasMethodAt}
use Rattle.jl_methods.specs.Filters.{IsOfProgram}
use Rattle.jl_methods.proofs.MadeLemmas.{made_of_program}
use Rattle.jl_world.specs.declared.about.About.{About}
use Rattle.jl_world.specs.declared.view.TaskView.{TaskView}
use Rattle.jl_world.specs.Adds.{HasPlaceFor, IsNarrow}
use Rattle.jl_world.specs.Views.{number_or_zero}
use Rattle.jl_book.specs.Passes.{task_in}

module _ (t : ℕ) where
  pub change_comes : (P : Program) (es : List Event) (c : Change) → IsChange P es t c → MayCome P es (change_event t c)
  change_comes P es (Ch.Def site) h = h
  change_comes P es (Ch.Del place) h = h

  pub change_valid : (P : Program) (es : List Event) (c : Change) → MayBeMade P es c → IsValidEvent P (change_event t c)
  change_valid P es (Ch.Def site) m = made_of_program P es (Ch.Def site) m
  change_valid P es (Ch.Del place) m = made_of_program P es (Ch.Del place) m

  pub change_has_place : (about : About) (es : List Event) (c : Change) → HasPlaceFor about es (change_event t c)
  change_has_place about es (Ch.Def site) = tt
  change_has_place about es (Ch.Del place) = tt

  pub change_is_narrow : (c : Change) → IsNarrow (change_event t c)
  change_is_narrow (Ch.Def site) = tt
  change_is_narrow (Ch.Del place) = tt

  pub change_ends_none : (R : ℕ → Record → Type 0) (c : Change) → OnDone R (change_event t c)
  change_ends_none R (Ch.Def site) = tt
  change_ends_none R (Ch.Del place) = tt

  pub change_done : (c : Change) (u : ℕ) → done_of u (change_event t c ∷ []) ≡ None
  change_done (Ch.Def site) u = refl
  change_done (Ch.Del place) u = refl

  pub change_tasks : (c : Change) → tasks_of (change_event t c ∷ []) ≡ 1
  change_tasks (Ch.Def site) = refl
  change_tasks (Ch.Del place) = refl

  pub change_keys : (c : Change) → keys_of (change_event t c ∷ []) ≡ []
  change_keys (Ch.Def site) = refl
  change_keys (Ch.Del place) = refl

-- what a call was asked for says that the task of its pass may make the change
pub may_be_made : (P : Program) (es now : List Event) (seat pass : TaskView) (t : ℕ) (c : Change) → es ≡ now → seat ≡ pass → seat.task ≡ Some t → IsRunning now (task_in pass) → MayBeMade P now c → world_of now < MOST_WORLDS
    → IsChange P es t c
may_be_made P es now seat pass t c same held task running may room =
    subst (λ xs. IsChange P xs t c) (sym same)
    (record { running = subst (IsRunning now) (ap (λ (v : TaskView). task_in v) (sym held) ∙ ap number_or_zero task) running; may = may; room = room })
