-- What each part of a program may name, where it stands: the slots and static parameters that are visible, and where a
-- `return` and a `Spawn` may stand. A block's bindings are visible to the end of that block, and the slot of a binding is the
-- number of slots visible at it. So where a binding at slot x cuts the environment to x and sets it, each use of a slot finds
-- the binding that is visible there (Julia manual, Scope of Variables; the language has no assignment).
use Rattle.std.specs.Prelude.{ℕ, ◌+◌, Bool, true, false, ◌&&◌, cond, not, nat_eq, nat_le, nat_lt, List, [], ◌∷◌, ◌++◌, map, length, get_or}
use Rattle.std.specs.List.{list_all}
use Rattle.std.specs.Str.{is_utf8}
use Rattle.jl_model.specs.declared.limits.TheConstants.{MOST_ARGUMENTS}
use Rattle.jl_model.specs.declared.ty.Decl.{Decl}
use Rattle.jl_model.specs.declared.ty.Written.{Written}
use Rattle.jl_model.specs.Ancestors.{builtin_types, table_of}
use Rattle.jl_model.specs.AllRows.{each_var}
use Rattle.jl_model.specs.Subtype.{Table}
use Rattle.jl_model.specs.Usable.{is_usable}
use Rattle.jl_program.specs.declared.tree.Expr.{Expr}
use Rattle.jl_program.specs.declared.tree.Item.{Item}
use Rattle.jl_program.specs.declared.tree.Piece.{Piece}
use Rattle.jl_program.specs.declared.tree.Expr.TheOpen.{Expr-F, Stmt-F, Item-F, Piece-F}
use Rattle.jl_program.specs.declared.tree.Expr.TheOpen as F
use Rattle.jl_program.specs.declared.tree.Expr.TheFolds.{fold-Expr, fold-Item, fold-Piece}
use Rattle.jl_program.specs.declared.tree.Program.{Program}
use Rattle.jl_program.specs.BodyTypes.{is_seen, is_made, is_inferable}
use Rattle.jl_program.specs.Names.{is_identifier}
use Rattle.jl_program.specs.Prelude.{prelude_count}

-- what is visible at a place: so many slots, and the static parameters, each with whether it is usable
pub record View : Type 0 where
  pub slots : ℕ
  pub statics : List Bool

-- a place in the tree: what is visible there, whether a `return` may stand there, and the least number of a spawn place
pub record Scope : Type 0 where
  pub view : View
  pub returns : Bool
  pub least : ℕ

-- nothing is visible
abbrev pub nothing_seen : View
nothing_seen = record { slots = 0; statics = [] }

-- the statements at the top
abbrev pub at_top : Scope
at_top = record { view = nothing_seen; returns = false; least = 0 }

-- the body of a site sees its parameters and the variables of its signature
abbrev pub in_body : Written → Scope
in_body s = record { view = record { slots = length s.parts; statics = each_var (is_usable s) 0 s.vars }; returns = true; least = 0 }

-- the expression of a spawn place sees what its place sees
abbrev pub in_task : ℕ → View → Scope
in_task place v = record { view = v; returns = false; least = place + 1 }

-- an evaluated statement sees nothing
abbrev pub evaluated : Scope → Scope
evaluated s = record { view = nothing_seen; returns = false; least = s.least }

-- behind a binding one more slot is visible
abbrev pub bound : Scope → Scope
bound s = record { view = record { slots = s.view.slots + 1; statics = s.view.statics }; returns = s.returns; least = s.least }

abbrev pub same_flags : List Bool → List Bool → Bool
same_flags [] [] = true
same_flags (true ∷ as_) (b ∷ bs) = b && same_flags as_ bs
same_flags (false ∷ as_) (b ∷ bs) = not b && same_flags as_ bs
same_flags _ _ = false

-- the same is visible
abbrev pub same_view : View → View → Bool
same_view a b = nat_eq a.slots b.slots && same_flags a.statics b.statics

-- a statement: whether it is valid in a scope, and whether it binds a slot
pub record Statement : Type 0 where
  pub valid : Scope → Bool
  pub binds : Bool

-- statements one after another, each where the bindings before it are visible
abbrev pub in_turn : List Statement → Scope → Bool
in_turn [] s = true
in_turn (x ∷ xs) s = x.valid s && in_turn xs (cond x.binds (bound s) s)

-- parts that all stand in one scope
abbrev pub all_in : List (Scope → Bool) → Scope → Bool
all_in xs s = list_all (λ x. x s) xs

-- the types of a program: the built-in ones, and then those that it declares
abbrev pub all_types : Program → List Decl
all_types P = builtin_types ++ P.decls

-- the table of these types
abbrev pub types_of : Program → Table
types_of P = table_of (builtin_types ++ P.decls)

-- The rules, form by form, over the program and what is visible at each of its spawn places.
module _ (P : Program) (views : List View) where
  -- a counted call is of a function and has at most 8 arguments
  abbrev pub is_call : ℕ → List (Scope → Bool) → Scope → Bool
  is_call f xs s = nat_lt f (length P.functions) && (nat_le (length xs) MOST_ARGUMENTS && all_in xs s)

  -- a spawn place of the program, of a number that may stand here, at which the same is visible
  abbrev pub is_place : ℕ → Scope → Bool
  is_place place s = nat_lt place (length views) && (nat_le s.least place && same_view (get_or views place nothing_seen) s.view)

  abbrev pub expr_step : Expr-F (Scope → Bool) Statement (Scope → Bool) Statement → Scope → Bool
  expr_step (F.Int n) s = true
  expr_step (F.Bool b) s = true
  expr_step F.Nothing s = true
  expr_step (F.Local x) s = nat_lt x s.view.slots
  expr_step (F.Call f xs) s = is_call f xs s
  expr_step (F.Latest f xs) s = is_call f xs s
  expr_step (F.Make t xs) s = is_seen (all_types P) s.view.statics t && (is_made (all_types P) t && all_in xs s)
  expr_step (F.Infer name xs) s = is_inferable (all_types P) name && all_in xs s
  expr_step (F.Parts xs) s = all_in xs s
  expr_step (F.Field x name) s = x s && is_identifier name
  expr_step (F.Part x number) s = x s && nat_le 1 number
  expr_step (F.Egal a b negated) s = a s && b s
  expr_step (F.Isa x t) s = x s && is_seen (all_types P) s.view.statics t
  expr_step (F.Sub t u) s = is_seen (all_types P) s.view.statics t && is_seen (all_types P) s.view.statics u
  expr_step (F.If test then_ else_) s = test s && (then_ s && else_ s)
  expr_step (F.And a b) s = a s && b s
  expr_step (F.Or a b) s = a s && b s
  expr_step (F.Block xs) s = in_turn xs s
  expr_step (F.Eval xs) s = list_all (λ x. x.valid (evaluated s)) xs
  expr_step (F.Spawn place) s = is_place place s
  expr_step (F.Delete place) s = nat_lt place (length P.deletes)
  expr_step (F.Fetch x) s = x s
  expr_step (F.Print ps line) s = all_in ps s

  abbrev pub stmt_step : Stmt-F (Scope → Bool) Statement (Scope → Bool) Statement → Statement
  stmt_step (F.Stmt::Bind slot x) = record { valid = λ s. nat_eq slot s.view.slots && x s; binds = true }
  stmt_step (F.Stmt::Do x) = record { valid = x; binds = false }
  stmt_step (F.Return x) = record { valid = λ s. s.returns && x s; binds = false }

  abbrev pub item_step : Item-F (Scope → Bool) Statement (Scope → Bool) Statement → Statement
  item_step (F.Define site) = record { valid = λ s. nat_le prelude_count site && nat_lt site (length P.sites); binds = false }
  item_step (F.Item::Bind slot x) = record { valid = λ s. nat_eq slot s.view.slots && x s; binds = true }
  item_step (F.Item::Do x) = record { valid = x; binds = false }

  abbrev pub piece_step : Piece-F (Scope → Bool) Statement (Scope → Bool) Statement → Scope → Bool
  piece_step (F.Text bytes) s = is_utf8 bytes
  piece_step (F.Show x) s = x s

  -- whether an expression is valid in a scope
  abbrev pub is_valid_expr : Expr → Scope → Bool
  is_valid_expr = fold-Expr (Scope → Bool) Statement (Scope → Bool) Statement expr_step item_step piece_step stmt_step

  abbrev pub item_of : Item → Statement
  item_of = fold-Item (Scope → Bool) Statement (Scope → Bool) Statement expr_step item_step piece_step stmt_step

  abbrev pub is_valid_piece : Piece → Scope → Bool
  is_valid_piece = fold-Piece (Scope → Bool) Statement (Scope → Bool) Statement expr_step item_step piece_step stmt_step

  -- statements at the top, or of an evaluated block, one after another
  abbrev pub are_valid_items : List Item → Scope → Bool
  are_valid_items items = in_turn (map item_of items)

  -- the expressions of the spawn places from this number on, each where what its place sees is visible
  abbrev pub are_valid_tasks : ℕ → List View → List Expr → Bool
  are_valid_tasks place [] [] = true
  are_valid_tasks place (v ∷ vs) (e ∷ es) = is_valid_expr e (in_task place v) && are_valid_tasks (place + 1) vs es
  are_valid_tasks place _ _ = false
