-- A run over a list of events is one over each list that goes on from it: the worlds in which it makes its calls are there already.
use Rattle.std.proofs.Common.{sym, subst, ℕ, ◌≤◌, arith, List, [], ◌∷◌, ◌++◌, Option, None, Some}
use Rattle.jl_program.specs.declared.tree.Program.{Program}
use Rattle.jl_program.specs.declared.tree.Start.{Start}
use Rattle.jl_calculus.specs.declared.history.Event.{Event}
use Rattle.jl_calculus.specs.declared.history.Outcome.{Outcome}
use Rattle.jl_calculus.specs.declared.history.TraceItem.{TraceItem}
use Rattle.jl_calculus.specs.declared.history.TraceItem.TheVariants.{Look, Def, Del, Spawn, Fetch, WorldFull, TaskFull, Absent}
use Rattle.jl_calculus.specs.HistoryLaws.{IsStartSeen}
use Rattle.jl_calculus.specs.Kept.{Places}
use Rattle.jl_calculus.specs.Legal.{AreTrueOf}
use Rattle.jl_calculus.specs.Run.{setting_of, Run}
use Rattle.jl_calculus.specs.World.{world_of}
use Rattle.jl_calculus.proofs.BetweenLemmas.{of_world}
use Rattle.jl_calculus.proofs.GrowthLemmas.{selects_on, site_more, keeps_on, first_at_most}
use Rattle.jl_calculus.proofs.RunMoves.{LooksIn, StartsIn, AnswersAlike, run_moves}

-- ---- the worlds of a trace

-- the worlds up to the newest of these events
abbrev Seen : List Event → ℕ → Type 0
Seen es w = w ≤ world_of es

looks_seen : (P : Program) (es : List Event) (task : ℕ) (is : List TraceItem) → AreTrueOf P es task is → LooksIn (Seen es) is
looks_seen P es task [] h = tt
looks_seen P es task (Look w p ∷ is) (a, h) = (subst (λ (n : ℕ). n ≤ world_of es) a.1 (first_at_most es p), looks_seen P es task is h)
looks_seen P es task (Def site p ∷ is) (a, h) = looks_seen P es task is h
looks_seen P es task (Spawn child p ∷ is) (a, h) = looks_seen P es task is h
looks_seen P es task (Fetch of o p ∷ is) (a, h) = looks_seen P es task is h
looks_seen P es task (WorldFull p ∷ is) (a, h) = looks_seen P es task is h
looks_seen P es task (TaskFull p ∷ is) (a, h) = looks_seen P es task is h
looks_seen P es task (Del at_place p ∷ is) (a, h) = looks_seen P es task is h
looks_seen P es task (Absent at_place p ∷ is) (a, h) = looks_seen P es task is h

start_seen : (es : List Event) (start : Option Start) → IsStartSeen es start → StartsIn (Seen es) start
start_seen es None l = tt
start_seen es (Some start) l = l

-- a longer list answers the calls in these worlds alike
longer_answers : (P : Program) (es more : List Event) (room : Option Places) → AnswersAlike P (Seen es) es (es ++ more) room room
longer_answers P es more room = record {
  selects = λ f ts w c l h. selects_on P es more f ts w c l h;
  keeps = λ f ts w l h. keeps_on P es more room f ts w h;
  site = λ f ts w d l h. (let k = of_world P es f ts w d h in sym (site_more P es more d (omega (arith, k.1, l))));
}

pub run_on : (P : Program) (es more : List Event) (room : Option Places) (fuel task : ℕ) (start : Option Start) (trace : List TraceItem) (outcome : Outcome) (output : List ℕ) (made : ℕ) (spawned : List Start)
    → AreTrueOf P es task trace → IsStartSeen es start → Run (setting_of P es room fuel) start trace outcome output made spawned → Run (setting_of P (es ++ more) room fuel) start trace outcome output made spawned
run_on P es more room fuel task start trace outcome output made spawned t l h =
    run_moves P fuel None (Seen es) es (es ++ more) room room (longer_answers P es more room) start trace outcome output made spawned (start_seen es start l) (looks_seen P es task trace t) h
