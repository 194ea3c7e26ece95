use Rattle.std.proofs.Common.{◌<◌, ◌≤◌, ℕ, List, length, get_or}
use Rattle.jl_program.specs.declared.tree.Program.{Program}
use Rattle.jl_calculus.specs.declared.history.Change.{Change}
use Rattle.jl_causes.specs.Stands.{AreStanding, IsThere}
use Rattle.jl_causes.proofs.standing.Standing.has_one.Given as goal

abbrev pub invariant-loop-site : goal.invariant-loop-site
invariant-loop-site l = (P : Program) (cs : List Change) → AreStanding P cs l.self → l.world ≤ length cs → (j : ℕ) → j < l.site-index → IsThere P cs (get_or l.sites j 0) l.world → ⊥
