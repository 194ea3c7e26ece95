-- The equations of the counts, one for each form of a value.
use Rattle.std.proofs.Common.{◌≡◌, ℕ, ℤ, Bool, ◌+◌, List}
use Rattle.jl_model.specs.declared.ty.Ty.{Ty}
use Rattle.jl_program.specs.declared.datum.Datum.{Datum}
use Rattle.jl_program.specs.declared.datum.Datum.TheOpen as T
use Rattle.jl_program.specs.declared.datum.Datum.TheViews.{roll-Datum}
use Rattle.jl_program.specs.declared.datum.Datum.TheFolds.{fold-roll-Datum}
use Rattle.jl_program.specs.Measures.{nodes, nodes_all, nodes_step, depth, depth_all, depth_step}

pub nodes-int : (n : ℤ) → nodes (roll-Datum (T.Int n)) ≡ 1
nodes-int n = fold-roll-Datum ℕ nodes_step (T.Int n)

pub nodes-bool : (b : Bool) → nodes (roll-Datum (T.Bool b)) ≡ 1
nodes-bool b = fold-roll-Datum ℕ nodes_step (T.Bool b)

pub nodes-nothing : nodes (roll-Datum T.Nothing) ≡ 1
nodes-nothing = fold-roll-Datum ℕ nodes_step T.Nothing

pub nodes-task : (n : ℕ) → nodes (roll-Datum (T.Task n)) ≡ 1
nodes-task n = fold-roll-Datum ℕ nodes_step (T.Task n)

pub nodes-tuple : (t : Ty) (vs : List Datum) → nodes (roll-Datum (T.Tuple t vs)) ≡ nodes_all vs + 1
nodes-tuple t vs = fold-roll-Datum ℕ nodes_step (T.Tuple t vs)

pub nodes-struct : (t : Ty) (vs : List Datum) → nodes (roll-Datum (T.Struct t vs)) ≡ nodes_all vs + 1
nodes-struct t vs = fold-roll-Datum ℕ nodes_step (T.Struct t vs)

pub depth-int : (n : ℤ) → depth (roll-Datum (T.Int n)) ≡ 1
depth-int n = fold-roll-Datum ℕ depth_step (T.Int n)

pub depth-bool : (b : Bool) → depth (roll-Datum (T.Bool b)) ≡ 1
depth-bool b = fold-roll-Datum ℕ depth_step (T.Bool b)

pub depth-nothing : depth (roll-Datum T.Nothing) ≡ 1
depth-nothing = fold-roll-Datum ℕ depth_step T.Nothing

pub depth-task : (n : ℕ) → depth (roll-Datum (T.Task n)) ≡ 1
depth-task n = fold-roll-Datum ℕ depth_step (T.Task n)

pub depth-tuple : (t : Ty) (vs : List Datum) → depth (roll-Datum (T.Tuple t vs)) ≡ depth_all vs + 1
depth-tuple t vs = fold-roll-Datum ℕ depth_step (T.Tuple t vs)

pub depth-struct : (t : Ty) (vs : List Datum) → depth (roll-Datum (T.Struct t vs)) ≡ depth_all vs + 1
depth-struct t vs = fold-roll-Datum ℕ depth_step (T.Struct t vs)

pub ruleset counts = (nodes-int, nodes-bool, nodes-nothing, nodes-task, nodes-tuple, nodes-struct, depth-int, depth-bool, depth-nothing, depth-task, depth-tuple, depth-struct)
