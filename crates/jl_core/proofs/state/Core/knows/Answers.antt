use Rattle.std.proofs.Common.{◌↔◌, IsTrue, false, subst, refl}
use Rattle.jl_core.specs.Kept.{core_of}
use Rattle.jl_core.specs.Reached.{KnowsOne}
use Rattle.jl_core.proofs.EnabledLemmas.{no_where, knows_where, knows_not}
use Rattle.jl_core.proofs.state.Core.knows.Goals as goal

pub returns-in-Some : goal.returns-in-Some
returns-in-Some c =
    let a = c.self.inside in
    let at = c.in-Some.ensures.lookup in
    subst (λ s. IsTrue c.is_among.result ↔ KnowsOne s.core c.args.task c.args.other) c.self.view_is
    (knows_where (core_of a) a.tasks.items c.as_slice.result.now c.args.task c.args.other c.in-Some.state.now c.as_slice-in-Some.result.now c.is_among.result refl c.as_slice.ensures.value at.3.0 at.1 c.as_slice-in-Some.ensures.value
    c.is_among.ensures)

pub returns-in-None : goal.returns-in-None
returns-in-None c =
    let a = c.self.inside in
    subst (λ s. IsTrue false ↔ KnowsOne s.core c.args.task c.args.other) c.self.view_is
    (no_where (knows_not (core_of a) a.tasks.items c.as_slice.result.now c.args.task c.args.other refl c.as_slice.ensures.value c.in-None.ensures.lookup.3))
