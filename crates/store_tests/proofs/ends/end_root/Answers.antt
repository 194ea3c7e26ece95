use Rattle.std.proofs.Common.{subst, sym}
use Rattle.jl_calculus.specs.declared.history.Record.{Record}
use Rattle.jl_book.specs.Passes.{IsRunOver}
use Rattle.jl_world.specs.declared.view.TaskView.{TaskView}
use Rattle.store_tests.proofs.ChildLemmas.{root_over}
use Rattle.store_tests.proofs.ends.end_root.Goals as goal

pub end-requires : goal.end-requires
end-requires g c =
    subst (λ (z : TaskView × Record). IsRunOver g.N.Naming.about z.0 z.1) (λ i. (sym c.requires.root i, sym c.in-Ok.ensures i)) (root_over g.N.Naming.about c.requires.program)
