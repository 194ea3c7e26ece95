use Rattle.std.proofs.Common.{ℕ, ◌<◌}
use Rattle.jl_calculus.specs.Core.{CanCut}
use Rattle.jl_core.proofs.state.Core.may_publish.Given as goal

abbrev pub invariant-loop-row : goal.invariant-loop-row
invariant-loop-row l = (r : ℕ) → r < l.row → CanCut l.self.program l.self.room l.self.core r → ⊥
