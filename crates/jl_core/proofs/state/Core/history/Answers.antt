use Rattle.std.proofs.Common.{sym, subst}
use Rattle.jl_calculus.specs.Legal.{MayStand, IsTraced}
use Rattle.jl_core.proofs.StepLemmas.{reached_sound}
use Rattle.jl_core.specs.Kept.{core_of}
use Rattle.jl_core.proofs.state.Core.history.Goals as goal

pub returns-clause-stand : goal.returns-clause-stand
returns-clause-stand c =
    let a = c.self.inside in
    subst (λ s. MayStand s.program c.as_slice.result.now) c.self.view_is
    (subst (MayStand a.program) (sym c.as_slice.ensures.value) (reached_sound a.program (record { keys = a.keys; rows = a.rows }) (core_of a) c.self.invariant.reached).events.stand)

pub returns-clause-traced : goal.returns-clause-traced
returns-clause-traced c =
    let a = c.self.inside in
    subst (λ s. IsTraced s.program c.as_slice.result.now) c.self.view_is
    (subst (IsTraced a.program) (sym c.as_slice.ensures.value) (reached_sound a.program (record { keys = a.keys; rows = a.rows }) (core_of a) c.self.invariant.reached).events.traced)
