use Rattle.std.proofs.Common.{◌↔◌, IsTrue, false, ap, subst}
use Rattle.jl_calculus.specs.Core as C
use Rattle.jl_core.specs.Kept.{core_of, opened_of}
use Rattle.jl_core.proofs.EnabledLemmas.{no_where, not_free}
use Rattle.jl_core.proofs.state.Core.is_free.Goals as goal

pub returns-in-Some : goal.returns-in-Some
returns-in-Some c =
    let a = c.self.inside in
    let o : C.Opened = record { task = c.in-Some.field-0.task; change = c.in-Some.field-0.change; cut = a.cut.items } in
    subst (λ s. IsTrue false ↔ C.IsFree s.program s.room s.core c.args.task) c.self.view_is
    (no_where (not_free _ _ (core_of a) _ c.self.invariant c.args.task o (ap (λ x. opened_of x a.cut.items) c.in-Some.is)))
