use Rattle.std.proofs.Common.{◌↔◌, IsTrue, false, subst, refl}
use Rattle.jl_calculus.specs.Core.{Knows}
use Rattle.jl_core.specs.Kept.{core_of}
use Rattle.jl_core.proofs.AskLemmas.{known_where, known_not}
use Rattle.jl_core.proofs.EnabledLemmas.{no_where}
use Rattle.jl_core.proofs.state.Core.knows_all.Goals as goal

pub returns-in-Some : goal.returns-in-Some
returns-in-Some c =
    let a = c.self.inside in
    let at = c.in-Some.ensures.lookup in
    subst (λ s. IsTrue c.are_among.result ↔ Knows s.program s.room s.core c.args.task c.args.others.now) c.self.view_is
    (known_where _ _ (core_of a) a.tasks.items c.as_slice.result.now c.args.task c.args.others.now c.in-Some.state.now c.as_slice-in-Some.result.now c.are_among.result refl c.as_slice.ensures.value at.3.0 at.1 c.as_slice-in-Some.ensures.value
    c.are_among.ensures)

pub returns-in-None : goal.returns-in-None
returns-in-None c =
    let a = c.self.inside in
    subst (λ s. IsTrue false ↔ Knows s.program s.room s.core c.args.task c.args.others.now) c.self.view_is
    (no_where (known_not _ _ (core_of a) a.tasks.items c.as_slice.result.now c.args.task c.args.others.now refl c.as_slice.ensures.value c.in-None.ensures.lookup.3))
