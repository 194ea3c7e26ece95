-- What stands anywhere in a program, from left to right: its `Spawn`s, its written types, and the structs whose inferred
-- constructors it calls.
use Rattle.std.specs.Prelude.{ℕ, ◌+◌, cond, nat_eq, List, [], ◌∷◌, ◌++◌}
use Rattle.std.specs.List.{flat_map}
use Rattle.jl_model.specs.declared.ty.Written.{Written}
use Rattle.jl_program.specs.declared.tree.Expr.{Expr}
use Rattle.jl_program.specs.declared.tree.Item.{Item}
use Rattle.jl_program.specs.declared.tree.Piece.{Piece}
use Rattle.jl_program.specs.declared.tree.Stmt.{Stmt}
use Rattle.jl_program.specs.declared.tree.Expr.TheOpen.{Expr-F, Stmt-F, Item-F, Piece-F}
use Rattle.jl_program.specs.declared.tree.Expr.TheOpen as F
use Rattle.jl_program.specs.declared.tree.Expr.TheFolds.{fold-Expr, fold-Item, fold-Piece, fold-Stmt}
use Rattle.jl_program.specs.declared.tree.Program.{Program}

-- a form, with what stands in each of its parts
abbrev pub Layer : Type 0 → Type 0
Layer X = Expr-F (List X) (List X) (List X) (List X)

module _ {X : Type 0} where
  -- what stands in its parts
  abbrev pub in_parts : Layer X → List X
  in_parts (F.Int n) = []
  in_parts (F.Bool b) = []
  in_parts F.Nothing = []
  in_parts (F.Local x) = []
  in_parts (F.Call f xs) = flat_map (λ x. x) xs
  in_parts (F.Latest f xs) = flat_map (λ x. x) xs
  in_parts (F.Make t xs) = flat_map (λ x. x) xs
  in_parts (F.Infer name xs) = flat_map (λ x. x) xs
  in_parts (F.Parts xs) = flat_map (λ x. x) xs
  in_parts (F.Field x name) = x
  in_parts (F.Part x number) = x
  in_parts (F.Egal a b negated) = a ++ b
  in_parts (F.Isa x t) = x
  in_parts (F.Sub t u) = []
  in_parts (F.If test then_ else_) = test ++ then_ ++ else_
  in_parts (F.And a b) = a ++ b
  in_parts (F.Or a b) = a ++ b
  in_parts (F.Block xs) = flat_map (λ x. x) xs
  in_parts (F.Eval xs) = flat_map (λ x. x) xs
  in_parts (F.Spawn place) = []
  in_parts (F.Delete place) = []
  in_parts (F.Fetch x) = x
  in_parts (F.Print ps line) = flat_map (λ p. p) ps

  abbrev pub in_stmt : Stmt-F (List X) (List X) (List X) (List X) → List X
  in_stmt (F.Stmt::Bind slot x) = x
  in_stmt (F.Stmt::Do x) = x
  in_stmt (F.Return x) = x

  abbrev pub in_item : Item-F (List X) (List X) (List X) (List X) → List X
  in_item (F.Define site) = []
  in_item (F.Item::Bind slot x) = x
  in_item (F.Item::Do x) = x

  abbrev pub in_piece : Piece-F (List X) (List X) (List X) (List X) → List X
  in_piece (F.Text bytes) = []
  in_piece (F.Show x) = x

  -- what an expression has itself comes before what its parts have
  module _ (own : Layer X → List X) where
    abbrev pub gathers : Layer X → List X
    gathers e = own e ++ in_parts e

    abbrev pub of_expr : Expr → List X
    of_expr = fold-Expr (List X) (List X) (List X) (List X) gathers in_item in_piece in_stmt

    abbrev pub of_stmt : Stmt → List X
    of_stmt = fold-Stmt (List X) (List X) (List X) (List X) gathers in_item in_piece in_stmt

    abbrev pub of_item : Item → List X
    of_item = fold-Item (List X) (List X) (List X) (List X) gathers in_item in_piece in_stmt

    abbrev pub of_piece : Piece → List X
    of_piece = fold-Piece (List X) (List X) (List X) (List X) gathers in_item in_piece in_stmt

    -- the bodies of the sites, the expressions of the spawn places, and the statements at the top
    abbrev pub in_program : Program → List X
    in_program P = flat_map (λ site. of_expr site.body) P.sites ++ flat_map of_expr P.spawns ++ flat_map of_item P.top

abbrev pub own_place : {X : Type 0} → Expr-F X X X X → List ℕ
own_place (F.Spawn place) = place ∷ []
own_place _ = []

abbrev pub own_types : {X : Type 0} → Expr-F X X X X → List Written
own_types (F.Make t xs) = t ∷ []
own_types (F.Isa x t) = t ∷ []
own_types (F.Sub t u) = t ∷ u ∷ []
own_types _ = []

abbrev pub own_struct : {X : Type 0} → Expr-F X X X X → List ℕ
own_struct (F.Infer name xs) = name ∷ []
own_struct _ = []

-- the places of its `Spawn`s
abbrev pub spawned_places : Program → List ℕ
spawned_places = in_program own_place

-- the types written in its bodies
abbrev pub written_types : Program → List Written
written_types = in_program own_types

-- the structs whose inferred constructors it calls
abbrev pub inferred_structs : Program → List ℕ
inferred_structs = in_program own_struct

-- how often a number stands in a list
abbrev pub times : ℕ → List ℕ → ℕ
times n [] = 0
times n (m ∷ ms) = cond (nat_eq n m) (1 + times n ms) (times n ms)
