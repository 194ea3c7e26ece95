use Rattle.std.proofs.Common.{◌∙◌, ◌↔◌, IsTrue, true, false, ap, sym, subst, refl, arith}
use Rattle.jl_calculus.specs.Legal.{IsRunning}
use Rattle.jl_calculus.specs.Past.{done_of}
use Rattle.jl_core.specs.Kept.{core_of}
use Rattle.jl_core.proofs.EnabledLemmas.{yes_where, no_where, not_there, has_ended, is_running}
use Rattle.jl_core.proofs.state.Core.is_running.Goals as goal

pub returns-then-task-len : goal.returns-then-task-len
returns-then-task-len c =
    let a = c.self.inside in
    subst (λ s. IsTrue false ↔ IsRunning s.core.events c.args.task) c.self.view_is
    (no_where (not_there _ _ (core_of a) _ c.self.invariant a.tasks.items c.args.task refl (omega (arith, c.if-task-len.true, c.len.ensures, a.tasks.ok.0))))

pub returns-in-Some : goal.returns-in-Some
returns-in-Some c =
    let a = c.self.inside in
    subst (λ s. IsTrue false ↔ IsRunning s.core.events c.args.task) c.self.view_is
    (no_where (has_ended _ _ (core_of a) _ c.self.invariant c.args.task c.in-Some.field-0.now (ap (done_of c.args.task) (sym c.as_slice.ensures.value) ∙ c.in-Some.ensures)))

pub returns-in-None : goal.returns-in-None
returns-in-None c =
    let a = c.self.inside in
    subst (λ s. IsTrue true ↔ IsRunning s.core.events c.args.task) c.self.view_is
    (yes_where
    (is_running _ _ (core_of a) _ c.self.invariant a.tasks.items c.args.task refl (omega (arith, c.if-task-len.false, c.len.ensures, a.tasks.ok.0)) (ap (done_of c.args.task) (sym c.as_slice.ensures.value) ∙ c.in-None.ensures)))
