use Rattle.std.proofs.Common.{◌∙◌, ap, subst, IfSome}
use Rattle.jl_core.specs.Kept.{core_of}
use Rattle.jl_core.specs.Reached.{found_by, IsRightHit}
use Rattle.jl_core.proofs.StateLemmas.{found_at, found_none, right_if}
use Rattle.jl_core.proofs.state.Core.found.Goals as goal

pub returns-in-Some-clause-right : goal.returns-in-Some-clause-right
returns-in-Some-clause-right c =
    let a = c.self.inside in
    let at = c.in-Some.ensures.lookup in
    let e = found_at a.tasks.items c.as_slice.result.now c.args.task c.in-Some.state.now c.found.result c.as_slice.ensures.value at.3.0 at.1 c.found.ensures in
    subst (λ s. IfSome c.found.result (λ site. IsRightHit s.program s.core c.args.task site)) c.self.view_is
    (right_if a.program (record { keys = a.keys; rows = a.rows }) (core_of a) c.args.task c.found.result c.self.invariant.reached e)

pub returns-in-None-clause-found : goal.returns-in-None-clause-found
returns-in-None-clause-found c =
    let a = c.self.inside in
    found_none a.tasks.items c.as_slice.result.now c.args.task c.as_slice.ensures.value c.in-None.ensures.lookup.3 ∙ ap (λ s. found_by s.core c.args.task) c.self.view_is
