use Rattle.std.proofs.Common.{◌∙◌, ◌++◌, ◌∷◌, [], subst, sym}
use Rattle.jl_calculus.specs.declared.history.Event.TheVariants.{Done}
use Rattle.jl_calculus.specs.declared.history.Record.{Record}
use Rattle.jl_book.specs.Passes.{IsRunOver, task_in}
use Rattle.jl_world.specs.declared.view.TaskView.{TaskView}
use Rattle.store_tests.proofs.ChildLemmas.{child_over}
use Rattle.store_tests.proofs.ends.end_child.Goals as goal

pub end-requires : goal.end-requires
end-requires g c =
    subst (λ (z : TaskView × Record). IsRunOver g.N.Naming.about z.0 z.1) (λ i. (sym c.requires.child i, sym c.in-Ok.ensures i)) (child_over g.N.Naming.about c.requires.program)

pub returns-in-Ok : goal.returns-in-Ok
returns-in-Ok g c told =
    c.end.ensures told ∙ (λ i. c.requires.book i ++ Done (task_in (c.requires.child i)) (c.in-Ok.ensures i) ∷ [])
