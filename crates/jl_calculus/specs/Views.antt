-- What is visible at each spawn place, as a function of the program: at the `Spawn` of the place the same slots and static
-- parameters are visible (Julia manual, Scope of Variables).
use Rattle.std.specs.Prelude.{ℕ, ◌+◌, Bool, true, false, cond, nat_eq, List, [], ◌∷◌, ◌++◌, map}
use Rattle.std.specs.List.{flat_map}
use Rattle.jl_program.specs.declared.tree.Expr.{Expr}
use Rattle.jl_program.specs.declared.tree.Item.{Item}
use Rattle.jl_program.specs.declared.tree.Expr.TheOpen.{Expr-F, Stmt-F, Item-F, Piece-F}
use Rattle.jl_program.specs.declared.tree.Expr.TheOpen as F
use Rattle.jl_program.specs.declared.tree.Expr.TheFolds.{fold-Expr, fold-Item}
use Rattle.jl_program.specs.declared.tree.Program.{Program}
use Rattle.jl_program.specs.Scope.{View, nothing_seen, in_body}

-- a `Spawn`: its place, and what is visible there
pub record Spawned : Type 0 where
  pub place : ℕ
  pub view : View

-- a statement: the `Spawn`s in it where this is visible, and whether it binds a slot
pub record Walk : Type 0 where
  pub finds : View → List Spawned
  pub binds : Bool

-- one more slot is visible
abbrev pub wider : View → View
wider v = record { slots = v.slots + 1; statics = v.statics }

-- statements one after another, each where the bindings before it are visible
abbrev pub find_in_turn : List Walk → View → List Spawned
find_in_turn [] v = []
find_in_turn (x ∷ xs) v = x.finds v ++ find_in_turn xs (cond x.binds (wider v) v)

abbrev pub Finds : Type 0
Finds = View → List Spawned

abbrev pub find_all : List Finds → Finds
find_all xs v = flat_map (λ x. x v) xs

abbrev pub find_step : Expr-F Finds Walk Finds Walk → Finds
find_step (F.Int n) v = []
find_step (F.Bool b) v = []
find_step F.Nothing v = []
find_step (F.Local x) v = []
find_step (F.Call f xs) v = find_all xs v
find_step (F.Latest f xs) v = find_all xs v
find_step (F.Make t xs) v = find_all xs v
find_step (F.Infer name xs) v = find_all xs v
find_step (F.Parts xs) v = find_all xs v
find_step (F.Field a name) v = a v
find_step (F.Part a number) v = a v
find_step (F.Egal a b negated) v = a v ++ b v
find_step (F.Isa a t) v = a v
find_step (F.Sub t u) v = []
find_step (F.If test then_ else_) v = test v ++ then_ v ++ else_ v
find_step (F.And a b) v = a v ++ b v
find_step (F.Or a b) v = a v ++ b v
find_step (F.Block xs) v = find_in_turn xs v
find_step (F.Eval xs) v = flat_map (λ x. x.finds nothing_seen) xs
find_step (F.Spawn place) v = record { place = place; view = v } ∷ []
find_step (F.Delete place) v = []
find_step (F.Fetch a) v = a v
find_step (F.Print ps line) v = find_all ps v

abbrev pub find_stmt_step : Stmt-F Finds Walk Finds Walk → Walk
find_stmt_step (F.Stmt::Bind slot a) = record { finds = a; binds = true }
find_stmt_step (F.Stmt::Do a) = record { finds = a; binds = false }
find_stmt_step (F.Return a) = record { finds = a; binds = false }

abbrev pub find_item_step : Item-F Finds Walk Finds Walk → Walk
find_item_step (F.Define site) = record { finds = λ v. []; binds = false }
find_item_step (F.Item::Bind slot a) = record { finds = a; binds = true }
find_item_step (F.Item::Do a) = record { finds = a; binds = false }

abbrev pub find_piece_step : Piece-F Finds Walk Finds Walk → Finds
find_piece_step (F.Text bytes) v = []
find_piece_step (F.Show a) v = a v

-- the `Spawn`s in an expression
abbrev pub find_spawns : Expr → Finds
find_spawns = fold-Expr Finds Walk Finds Walk find_step find_item_step find_piece_step find_stmt_step

abbrev pub walk_item : Item → Walk
walk_item = fold-Item Finds Walk Finds Walk find_step find_item_step find_piece_step find_stmt_step

-- what is visible at a place, among these
abbrev pub view_among : List Spawned → ℕ → View
view_among [] place = nothing_seen
view_among (s ∷ ss) place = cond (nat_eq s.place place) s.view (view_among ss place)

-- the `Spawn`s in the bodies of the sites and in the statements at the top
abbrev pub outer_spawns : Program → List Spawned
outer_spawns P = flat_map (λ site. find_spawns site.body (in_body site.sig).view) P.sites ++ find_in_turn (map walk_item P.top) nothing_seen

-- with those in the expressions of the spawn places from this number on, each of which sees what its place sees; a `Spawn` in one
-- of these has a greater number than the place
abbrev pub with_inner : List Spawned → ℕ → List Expr → List Spawned
with_inner known place [] = known
with_inner known place (e ∷ es) = with_inner (known ++ find_spawns e (view_among known place)) (place + 1) es

-- what is visible at a spawn place of a program
abbrev pub view_at : Program → ℕ → View
view_at P place = view_among (with_inner (outer_spawns P) 0 P.spawns) place

-- what is visible at each of these places, of which the first has this number
abbrev pub views_from : Program → ℕ → List Expr → List View
views_from P place [] = []
views_from P place (e ∷ es) = view_at P place ∷ views_from P (place + 1) es

-- what is visible at each spawn place of a program
abbrev pub views_of : Program → List View
views_of P = views_from P 0 P.spawns
