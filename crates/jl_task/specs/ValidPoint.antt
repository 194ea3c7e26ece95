-- The points that a run of a valid program comes to: what is left to do is valid where it stands, and the values and types that are there are those that
-- it may name.
use Rattle.std.specs.Prelude.{ℕ, ◌+◌, ◌≡◌, ◌<◌, ◌≤◌, Bool, true, false, cond, nat_eq, IsTrue, List, [], ◌∷◌, map, length, Option, None, Some, get_or}
use Rattle.std.specs.List.{list_any}
use Rattle.jl_model.specs.declared.limits.TheConstants.{MOST_ARGUMENTS}
use Rattle.jl_model.specs.declared.ty.Ty.{Ty}
use Rattle.jl_model.specs.declared.ty.Written.{Written}
use Rattle.jl_program.specs.declared.value.Value.{Value}
use Rattle.jl_program.specs.declared.tree.Expr.{Expr, out-Expr}
use Rattle.jl_program.specs.declared.tree.Stmt.{Stmt, out-Stmt}
use Rattle.jl_program.specs.declared.tree.Item.{Item, out-Item}
use Rattle.jl_program.specs.declared.tree.Piece.{Piece}
use Rattle.jl_program.specs.declared.tree.Expr.TheOpen.{Expr-F, Stmt-F, Item-F}
use Rattle.jl_program.specs.declared.tree.Expr.TheOpen as F
use Rattle.jl_program.specs.declared.tree.Expr.TheFolds.{fold-Stmt}
use Rattle.jl_program.specs.declared.tree.Program.{Program}
use Rattle.jl_program.specs.BodyTypes.{is_seen, is_made, is_inferable, IsAllowedType, IsSmallStruct}
use Rattle.jl_program.specs.Gathered.{of_expr, of_stmt, of_item, of_piece, own_types, own_struct, inferred_structs}
use Rattle.jl_program.specs.Meaning.{datum}
use Rattle.jl_program.specs.Prelude.{prelude_count}
use Rattle.jl_program.specs.Scope.{View, Scope, Statement, nothing_seen, evaluated, bound, all_types, expr_step, stmt_step, item_step, piece_step, is_valid_expr, item_of, is_valid_piece}
use Rattle.jl_program.specs.ValidValue.{AllValid}
use Rattle.jl_calculus.specs.ValidHistory.{IsValidValue, IsValidOutcome}
use Rattle.jl_calculus.specs.ValidStart.{AreStatics}
use Rattle.jl_task.specs.declared.point.Frame.{Frame}
use Rattle.jl_task.specs.declared.point.Frame.TheVariants.{Args, Testing, AfterStmt, Block, AfterItem, Evaluated, Showing, Body}
use Rattle.jl_task.specs.declared.point.Work.{Work}
use Rattle.jl_task.specs.declared.point.Work.TheVariants.{Eval, Give, Leave, Acting, Calling, Stmts, Items, Defining, Pieces, Ended, Lost}
use Rattle.jl_task.specs.declared.point.Now.{Now}
use Rattle.jl_task.specs.Turns.{Point}

-- each of a list
abbrev pub Every : {X : Type 0} → (X → Type 0) → List X → Type 0
Every A [] = Unit {0}
Every A (x ∷ xs) = A x × Every A xs

-- the parts whose values a form acts on; the other forms do not wait for parts
abbrev pub parts_of : Expr-F Expr Item Piece Stmt → Option (List Expr)
parts_of (F.Call f xs) = Some xs
parts_of (F.Latest f xs) = Some xs
parts_of (F.Make t xs) = Some xs
parts_of (F.Infer name xs) = Some xs
parts_of (F.Parts xs) = Some xs
parts_of (F.Field a name) = Some (a ∷ [])
parts_of (F.Part a number) = Some (a ∷ [])
parts_of (F.Egal a b negated) = Some (a ∷ b ∷ [])
parts_of (F.Isa a t) = Some (a ∷ [])
parts_of (F.Sub t u) = Some []
parts_of (F.Spawn place) = Some []
parts_of (F.Delete place) = Some []
parts_of (F.Fetch a) = Some (a ∷ [])
parts_of (F.Int n) = None
parts_of (F.Bool b) = None
parts_of F.Nothing = None
parts_of (F.Local x) = None
parts_of (F.If test then_ else_) = None
parts_of (F.And a b) = None
parts_of (F.Or a b) = None
parts_of (F.Block xs) = None
parts_of (F.Eval xs) = None
parts_of (F.Print ps line) = None

-- there are so many of them
abbrev pub AreMany : ℕ → Option (List Expr) → Type 0
AreMany n None = ⊥
AreMany n (Some xs) = n ≡ length xs

-- a form acts on so many values
abbrev pub ActsOn : Expr → ℕ → Type 0
ActsOn e n = AreMany n (parts_of (out-Expr e))

-- the same place, where so many slots are visible
abbrev pub with_slots : Scope → ℕ → Scope
with_slots s m = record { view = record { slots = m; statics = s.view.statics }; returns = s.returns; least = s.least }

-- a struct whose constructor the program infers, and whose fields are small enough to be kept as a signature
pub record IsInferred (P : Program) (name : ℕ) : Type 0 where
  pub called : IsTrue (list_any (nat_eq name) (inferred_structs P))
  pub small : IsSmallStruct (all_types P) name

-- what is written anywhere in a part of the tree is allowed: its types, and the structs whose constructors it infers
pub record IsClean (P : Program) (types : List Written) (structs : List ℕ) : Type 0 where
  pub written : Every (IsAllowedType (all_types P)) types
  pub inferred : Every (IsInferred P) structs

-- each visible slot has a valid value, and each usable static parameter a type
pub record HasScope (P : Program) (s : Scope) (env : List Value) (bindings : List Ty) : Type 0 where
  pub slots : length env ≡ s.view.slots
  pub values : AllValid (all_types P) (map datum env)
  pub statics : AreStatics (all_types P) s.view.statics bindings

-- values of the program
abbrev pub AreValidValues : Program → List Value → Type 0
AreValidValues P vs = Every (IsValidValue P) vs

module _ (P : Program) (views : List View) where
  -- ---- what stands in the tree

  -- a part of the tree is valid in a scope, and all in it is allowed
  pub record IsGood (e : Expr) (s : Scope) : Type 0 where
    pub valid : IsTrue (is_valid_expr P views e s)
    pub clean : IsClean P (of_expr own_types e) (of_expr own_struct e)

  abbrev pub stmt_of : Stmt → Statement
  stmt_of = fold-Stmt (Scope → Bool) Statement (Scope → Bool) Statement (expr_step P views) (item_step P views) (piece_step P views) (stmt_step P views)

  pub record IsGoodStmt (x : Stmt) (s : Scope) : Type 0 where
    pub valid : IsTrue ((stmt_of x).valid s)
    pub clean : IsClean P (of_stmt own_types x) (of_stmt own_struct x)

  pub record IsGoodItem (x : Item) (s : Scope) : Type 0 where
    pub valid : IsTrue ((item_of P views x).valid s)
    pub clean : IsClean P (of_item own_types x) (of_item own_struct x)

  pub record IsGoodPiece (x : Piece) (s : Scope) : Type 0 where
    pub valid : IsTrue (is_valid_piece P views x s)
    pub clean : IsClean P (of_piece own_types x) (of_piece own_struct x)

  abbrev pub AreGood : List Expr → Scope → Type 0
  AreGood xs s = Every (λ x. IsGood x s) xs

  abbrev pub AreGoodPieces : List Piece → Scope → Type 0
  AreGoodPieces xs s = Every (λ x. IsGoodPiece x s) xs

  -- statements of a block one after another, each where the bindings before it are visible
  abbrev pub AreGoodStmts : List Stmt → Scope → Type 0
  AreGoodStmts [] s = Unit {0}
  AreGoodStmts (x ∷ xs) s = IsGoodStmt x s × AreGoodStmts xs (cond (stmt_of x).binds (bound s) s)

  -- statements at the top one after another
  abbrev pub AreGoodInTurn : List Item → Scope → Type 0
  AreGoodInTurn [] s = Unit {0}
  AreGoodInTurn (x ∷ xs) s = IsGoodItem x s × AreGoodInTurn xs (cond (item_of P views x).binds (bound s) s)

  -- those of an evaluated block see nothing
  abbrev pub AreGoodItems : Bool → List Item → Scope → Type 0
  AreGoodItems true xs s = Every (λ x. IsGoodItem x (evaluated s)) xs
  AreGoodItems false xs s = AreGoodInTurn xs s

  -- what a good expression of each form says of its parts and of itself
  abbrev pub Says : Expr-F Expr Item Piece Stmt → Scope → Type 0
  Says (F.Int n) s = Unit {0}
  Says (F.Bool b) s = Unit {0}
  Says F.Nothing s = Unit {0}
  Says (F.Local x) s = x < s.view.slots
  Says (F.Call f xs) s = (f < length P.functions) × (length xs ≤ MOST_ARGUMENTS) × AreGood xs s
  Says (F.Latest f xs) s = (f < length P.functions) × (length xs ≤ MOST_ARGUMENTS) × AreGood xs s
  Says (F.Make t xs) s = IsTrue (is_seen (all_types P) s.view.statics t) × IsTrue (is_made (all_types P) t) × IsAllowedType (all_types P) t × AreGood xs s
  Says (F.Infer name xs) s = IsTrue (is_inferable (all_types P) name) × IsInferred P name × AreGood xs s
  Says (F.Parts xs) s = AreGood xs s
  Says (F.Field a name) s = IsGood a s
  Says (F.Part a number) s = IsGood a s × (1 ≤ number)
  Says (F.Egal a b negated) s = IsGood a s × IsGood b s
  Says (F.Isa a t) s = IsTrue (is_seen (all_types P) s.view.statics t) × IsAllowedType (all_types P) t × IsGood a s
  Says (F.Sub t u) s =
      IsTrue (is_seen (all_types P) s.view.statics t) × IsAllowedType (all_types P) t
      × IsTrue (is_seen (all_types P) s.view.statics u) × IsAllowedType (all_types P) u
  Says (F.If test then_ else_) s = IsGood test s × IsGood then_ s × IsGood else_ s
  Says (F.And a b) s = IsGood a s × IsGood b s
  Says (F.Or a b) s = IsGood a s × IsGood b s
  Says (F.Block xs) s = AreGoodStmts xs s
  Says (F.Eval xs) s = AreGoodItems true xs s
  Says (F.Spawn place) s = (place < length views) × (get_or views place nothing_seen ≡ s.view)
  Says (F.Delete place) s = place < length P.deletes
  Says (F.Fetch a) s = IsGood a s
  Says (F.Print ps line) s = AreGoodPieces ps s

  -- ---- what waits for a value, where this is visible

  -- the branches of a condition; no other form waits for one
  abbrev pub IsGoodTest : Expr-F Expr Item Piece Stmt → Scope → Type 0
  IsGoodTest (F.If test then_ else_) s = IsGood then_ s × IsGood else_ s
  IsGoodTest (F.And a b) s = IsGood b s
  IsGoodTest (F.Or a b) s = IsGood b s
  IsGoodTest _ s = ⊥

  -- what follows a statement of a block
  abbrev pub IsGoodAfterStmt : Stmt-F Expr Item Piece Stmt → List Stmt → Scope → Type 0
  IsGoodAfterStmt (F.Stmt::Bind slot e) xs s = (slot ≡ s.view.slots) × AreGoodStmts xs (bound s)
  IsGoodAfterStmt (F.Stmt::Do e) xs s = AreGoodStmts xs s
  IsGoodAfterStmt (F.Return e) xs s = AreGoodStmts xs s

  -- what follows a statement at the top or of an evaluated block
  abbrev pub IsGoodAfterItem : Item-F Expr Item Piece Stmt → Bool → List Item → Scope → Type 0
  IsGoodAfterItem (F.Define site) fresh xs s = AreGoodItems fresh xs s
  IsGoodAfterItem (F.Item::Bind slot e) fresh xs s = (slot ≡ s.view.slots) × AreGoodItems fresh xs (bound s)
  IsGoodAfterItem (F.Item::Do e) fresh xs s = AreGoodItems fresh xs s

  -- Frames that wait for a value where this is visible. What waits below the statements of a block waits whatever they bind, and what waits below those at
  -- the top or of an evaluated block waits whatever is visible.
  abbrev pub AreGoodFrames : List Frame → Scope → Type 0
  AreGoodFrames [] s = Unit {0}
  AreGoodFrames (Args e done xs ∷ K) s = IsGood e s × AreValidValues P done × AreGood xs s × ActsOn e (length done + 1 + length xs) × AreGoodFrames K s
  AreGoodFrames (Testing e ∷ K) s = IsGoodTest (out-Expr e) s × AreGoodFrames K s
  AreGoodFrames (AfterStmt x xs ∷ K) s = IsGoodAfterStmt (out-Stmt x) xs s × ((m : ℕ) → AreGoodFrames K (with_slots s m))
  AreGoodFrames (Block env ∷ K) s = AllValid (all_types P) (map datum env) × AreGoodFrames K (with_slots s (length env))
  AreGoodFrames (AfterItem x fresh w xs ∷ K) s = IsGoodAfterItem (out-Item x) fresh xs s × ((t : Scope) → AreGoodFrames K t)
  AreGoodFrames (Evaluated env bindings ∷ K) s = (t : Scope) × HasScope P t env bindings × AreGoodFrames K t
  AreGoodFrames (Showing text ps line ∷ K) s = AreGoodPieces ps s × AreGoodFrames K s
  AreGoodFrames (Body w k env bindings ∷ K) s = (t : Scope) × HasScope P t env bindings × AreGoodFrames K t

  -- frames that wait whatever is bound
  abbrev pub AreGoodBelow : List Frame → Scope → Type 0
  AreGoodBelow K s = (m : ℕ) → AreGoodFrames K (with_slots s m)

  -- frames that wait whatever is visible
  abbrev pub AreGoodAnywhere : List Frame → Type 0
  AreGoodAnywhere K = (t : Scope) → AreGoodFrames K t

  -- ---- what comes next

  abbrev pub IsGoodWork : Work → Scope → Type 0
  IsGoodWork (Eval e) s = IsGood e s
  IsGoodWork (Give v) s = IsValidValue P v
  IsGoodWork (Leave v) s = IsValidValue P v
  IsGoodWork (Acting e vs) s = IsGood e s × AreValidValues P vs × ActsOn e (length vs)
  IsGoodWork (Calling f w vs) s = (f < length P.functions) × (length vs ≤ MOST_ARGUMENTS) × AreValidValues P vs
  IsGoodWork (Stmts xs v) s = AreGoodStmts xs s × IsValidValue P v
  IsGoodWork (Items fresh xs v) s = AreGoodItems fresh xs s × IsValidValue P v
  IsGoodWork (Defining site fresh xs) s = (prelude_count ≤ site) × (site < length P.sites) × AreGoodItems fresh xs s
  IsGoodWork (Pieces text ps line) s = AreGoodPieces ps s
  IsGoodWork (Ended o) s = IsValidOutcome P o
  IsGoodWork Lost s = ⊥

  -- what waits for it: a `return` passes frames that wait for values elsewhere, and at the end nothing waits
  abbrev pub Waits : Work → List Frame → Scope → Type 0
  Waits (Eval e) K s = AreGoodFrames K s
  Waits (Give v) K s = AreGoodFrames K s
  Waits (Leave v) K s = (t : Scope) × AreGoodFrames K t
  Waits (Acting e vs) K s = AreGoodFrames K s
  Waits (Calling f w vs) K s = AreGoodFrames K s
  Waits (Stmts xs v) K s = AreGoodBelow K s
  Waits (Items fresh xs v) K s = AreGoodAnywhere K
  Waits (Defining site fresh xs) K s = AreGoodAnywhere K
  Waits (Pieces text ps line) K s = AreGoodFrames K s
  Waits (Ended o) K s = Unit {0}
  Waits Lost K s = Unit {0}

  -- a point of a run of the program, where this is visible
  pub record IsGoodAt (w : Work) (n : Now) (s : Scope) : Type 0 where
    pub scope : HasScope P s n.env n.bindings
    pub work : IsGoodWork w s
    pub waits : Waits w n.stack s

  -- a point of a run of the program
  abbrev pub IsGoodPoint : Point → Type 0
  IsGoodPoint p = (s : Scope) × IsGoodAt p.0 p.1 s
