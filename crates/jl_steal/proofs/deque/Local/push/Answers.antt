use Rattle.std.proofs.Common.{◌≡◌, [], ◌∷◌, ◌++◌, subst, sym}
use Rattle.crossbeam_deque.specs.Tasks.{Pushes}
use Rattle.crossbeam_deque.specs.Handles.{worker_view}
use Rattle.jl_steal.specs.Deques.{log, InOrder}
use Rattle.jl_steal.proofs.Keeps.{pushes}
use Rattle.jl_steal.proofs.deque.Local.push.Goals as goal

pub push_as-requires-clause-pushes : goal.push_as-requires-clause-pushes
push_as-requires-clause-pushes g c = let v = worker_view c.self.inside.worker in let xs = c.args.value ∷ [] in
    subst (λ port. Pushes InOrder port v xs (λ w. w ≡ log v.works (v.pushed ++ xs) v.taken)) (sym c.self.invariant.1) (pushes v xs)
