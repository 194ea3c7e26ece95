-- The book's seat with a view that it took in.
use Rattle.std.proofs.Common.{◌≡◌, sym, subst}
use Rattle.jl_program.specs.declared.tree.Program.{Program}
use Rattle.jl_calculus.specs.declared.history.Change.{Change}
use Rattle.jl_calculus.specs.Words.{AreAllCut}
use Rattle.jl_world.specs.declared.view.BookView.{BookView}
use Rattle.jl_world.specs.declared.view.TaskView.{TaskView}
use Rattle.jl_world.specs.Views.{taken}

-- what it cut ahead stays cut
pub still_cut : (P : Program) (b b1 : BookView) (v : TaskView) (change : Change) → b1 ≡ taken v b → AreAllCut P b.events change b.cut → AreAllCut P b1.events change b1.cut
still_cut P b b1 v change took h = subst (λ (x : BookView). AreAllCut P x.events change x.cut) (sym took) h
