-- The size of a program: its items, statements, expressions and printed pieces.
use Rattle.std.specs.Prelude.{ℕ, ◌+◌, List, [], ◌∷◌, map}
use Rattle.jl_program.specs.declared.tree.Expr.{Expr}
use Rattle.jl_program.specs.declared.tree.Item.{Item}
use Rattle.jl_program.specs.declared.tree.Expr.TheOpen.{Expr-F, Stmt-F, Item-F, Piece-F}
use Rattle.jl_program.specs.declared.tree.Expr.TheOpen as F
use Rattle.jl_program.specs.declared.tree.Expr.TheFolds.{fold-Expr, fold-Item}
use Rattle.jl_program.specs.declared.tree.Site.{Site}
use Rattle.jl_program.specs.declared.tree.Program.{Program}
use Rattle.jl_program.specs.Measures.{total}

-- the size of the parts of an expression
abbrev pub parts_size : Expr-F ℕ ℕ ℕ ℕ → ℕ
parts_size (F.Int n) = 0
parts_size (F.Bool b) = 0
parts_size F.Nothing = 0
parts_size (F.Local x) = 0
parts_size (F.Call f xs) = total xs
parts_size (F.Latest f xs) = total xs
parts_size (F.Make t xs) = total xs
parts_size (F.Infer name xs) = total xs
parts_size (F.Parts xs) = total xs
parts_size (F.Field x name) = x
parts_size (F.Part x number) = x
parts_size (F.Egal a b negated) = a + b
parts_size (F.Isa x t) = x
parts_size (F.Sub t u) = 0
parts_size (F.If test then_ else_) = test + then_ + else_
parts_size (F.And a b) = a + b
parts_size (F.Or a b) = a + b
parts_size (F.Block xs) = total xs
parts_size (F.Eval xs) = total xs
parts_size (F.Spawn place) = 0
parts_size (F.Delete place) = 0
parts_size (F.Fetch x) = x
parts_size (F.Print ps line) = total ps

abbrev pub expr_size_step : Expr-F ℕ ℕ ℕ ℕ → ℕ
expr_size_step e = 1 + parts_size e

abbrev pub item_size_step : Item-F ℕ ℕ ℕ ℕ → ℕ
item_size_step (F.Define site) = 1
item_size_step (F.Item::Bind slot x) = 1 + x
item_size_step (F.Item::Do x) = 1 + x

abbrev pub piece_size_step : Piece-F ℕ ℕ ℕ ℕ → ℕ
piece_size_step (F.Text bytes) = 1
piece_size_step (F.Show x) = 1 + x

abbrev pub stmt_size_step : Stmt-F ℕ ℕ ℕ ℕ → ℕ
stmt_size_step (F.Stmt::Bind slot x) = 1 + x
stmt_size_step (F.Stmt::Do x) = 1 + x
stmt_size_step (F.Return x) = 1 + x

-- an expression with all that stands in it
abbrev pub expr_size : Expr → ℕ
expr_size = fold-Expr ℕ ℕ ℕ ℕ expr_size_step item_size_step piece_size_step stmt_size_step

-- an item with all that stands in it
abbrev pub item_size : Item → ℕ
item_size = fold-Item ℕ ℕ ℕ ℕ expr_size_step item_size_step piece_size_step stmt_size_step

-- the bodies of all sites
abbrev pub bodies_size : List Site → ℕ
bodies_size [] = 0
bodies_size (site ∷ sites) = expr_size site.body + bodies_size sites

-- the bodies of the sites, the expressions of the spawn places, and the items at the top
abbrev pub program_size : Program → ℕ
program_size P = bodies_size P.sites + total (map expr_size P.spawns) + total (map item_size P.top)
