-- The worlds of a point: its own, and those that wait in its frames.
use Rattle.std.specs.Prelude.{ℕ, ◌≤◌, List, [], ◌∷◌}
use Rattle.jl_program.specs.declared.prelude.TheConstants.{FIRST_WORLD}
use Rattle.jl_task.specs.declared.point.Frame.{Frame}
use Rattle.jl_task.specs.declared.point.Frame.TheVariants.{Args, Testing, AfterStmt, Block, AfterItem, Evaluated, Showing, Body}
use Rattle.jl_task.specs.declared.point.Work.{Work}
use Rattle.jl_task.specs.declared.point.Work.TheVariants.{Eval, Give, Leave, Acting, Calling, Stmts, Items, Defining, Pieces, Ended, Lost}
use Rattle.jl_task.specs.Turns.{Point}

-- past the prelude, and at most this one
abbrev pub IsWorld : ℕ → ℕ → Type 0
IsWorld w most = (FIRST_WORLD ≤ w) × (w ≤ most)

-- the worlds that wait
abbrev pub AreWorlds : List Frame → ℕ → Type 0
AreWorlds [] most = Unit {0}
AreWorlds (Args e vs xs ∷ K) most = AreWorlds K most
AreWorlds (Testing e ∷ K) most = AreWorlds K most
AreWorlds (AfterStmt x xs ∷ K) most = AreWorlds K most
AreWorlds (Block env ∷ K) most = AreWorlds K most
AreWorlds (AfterItem x fresh w xs ∷ K) most = IsWorld w most × AreWorlds K most
AreWorlds (Evaluated env bindings ∷ K) most = AreWorlds K most
AreWorlds (Showing text xs line ∷ K) most = AreWorlds K most
AreWorlds (Body w k env bindings ∷ K) most = IsWorld w most × AreWorlds K most

-- the world in which a call is made that has looked
abbrev pub IsCallWorld : Work → ℕ → Type 0
IsCallWorld (Calling f w vs) most = IsWorld w most
IsCallWorld (Eval e) most = Unit {0}
IsCallWorld (Give v) most = Unit {0}
IsCallWorld (Leave v) most = Unit {0}
IsCallWorld (Acting e vs) most = Unit {0}
IsCallWorld (Stmts xs v) most = Unit {0}
IsCallWorld (Items fresh xs v) most = Unit {0}
IsCallWorld (Defining site fresh xs) most = Unit {0}
IsCallWorld (Pieces text xs line) most = Unit {0}
IsCallWorld (Ended o) most = Unit {0}
IsCallWorld Lost most = Unit {0}

-- all worlds of a point are at most this one
pub record IsWithin (most : ℕ) (p : Point) : Type 0 where
  pub world : IsWorld p.1.world most
  pub waiting : AreWorlds p.1.stack most
  pub called : IsCallWorld p.0 most
