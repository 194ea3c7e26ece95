use Rattle.std.proofs.Common.{sym, subst, refl, take}
use Rattle.std.proofs.lemmas.List.{length-take-le}
use Rattle.jl_core.specs.Asked.{HasSeenThese}
use Rattle.jl_core.specs.Kept.{core_of}
use Rattle.jl_core.proofs.AskLemmas.{seen_these, seen_long}
use Rattle.jl_core.proofs.state.Core.seen_by.Goals as goal

pub slice_bounds-result-end : goal.slice_bounds-result-end
slice_bounds-result-end c =
    let a = c.self.inside in
    let at = c.in-Some.ensures.lookup in
    sym (length-take-le c.in-Some.state.now.seen c.as_slice-events.result.now
    (seen_long _ _ (core_of a) _ c.self.invariant a.tasks.items c.as_slice.result.now c.as_slice-events.result.now c.args.task c.in-Some.state.now refl c.as_slice.ensures.value c.as_slice-events.ensures.value at.3.0 at.1))

pub returns : goal.returns
returns c =
    let a = c.self.inside in
    let at = c.in-Some.ensures.lookup in
    subst (λ s. HasSeenThese s.core c.args.task (take c.in-Some.state.now.seen c.as_slice-events.result.now)) c.self.view_is
    (seen_these (core_of a) a.tasks.items c.as_slice.result.now c.as_slice-events.result.now c.args.task c.in-Some.state.now refl c.as_slice.ensures.value c.as_slice-events.ensures.value at.3.0 at.1)
