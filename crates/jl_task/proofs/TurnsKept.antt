-- A turn that asks nobody leads from a point of a run of a valid program to one.
use Rattle.std.proofs.Common.{◌≡◌, ◌∙◌, refl, sym, ap, subst, ℕ, suc, ◌+◌, arith, Bool, true, false, List, [], ◌∷◌, ◌++◌, length, get_or, take, length-append}
use Rattle.jl_model.specs.declared.ty.Ty.{Ty}
use Rattle.jl_model.specs.Refusals.{Declared}
use Rattle.jl_program.specs.declared.value.Value.{Value}
use Rattle.jl_program.specs.declared.value.Value.TheVariants as V
use Rattle.jl_program.specs.declared.tree.Expr.{Expr, out-Expr}
use Rattle.jl_program.specs.declared.tree.Stmt.{Stmt, out-Stmt}
use Rattle.jl_program.specs.declared.tree.Item.{Item, out-Item}
use Rattle.jl_program.specs.declared.tree.Piece.{Piece, out-Piece}
use Rattle.jl_program.specs.declared.tree.Expr.TheOpen.{Expr-F, Stmt-F, Item-F, Piece-F}
use Rattle.jl_program.specs.declared.tree.Expr.TheOpen as F
use Rattle.jl_program.specs.declared.tree.Program.{Program}
use Rattle.jl_program.specs.Scope.{View, Scope, bound, evaluated, all_types}
use Rattle.jl_program.specs.ValidValue.{none}
use Rattle.jl_calculus.specs.declared.history.Outcome.{Outcome}
use Rattle.jl_calculus.specs.declared.history.Outcome.TheVariants as O
use Rattle.jl_calculus.specs.Run.{bound_at}
use Rattle.jl_calculus.specs.ValidHistory.{IsValidValue, IsValidOutcome}
use Rattle.jl_task.specs.declared.point.Frame.{Frame}
use Rattle.jl_task.specs.declared.point.Frame.TheVariants.{Args, Testing, AfterStmt, Block, AfterItem, Evaluated, Showing, Body}
use Rattle.jl_task.specs.declared.point.Work.TheVariants.{Eval, Give, Leave, Stmts, Pieces}
use Rattle.jl_task.specs.declared.point.Now.{Now}
use Rattle.jl_task.specs.Turns.{Point, go_args, go_piece, go_pieces, go_stmts, begun_layer, begun, branch, refused_test, tested, after_stmt, after_item, taken, given, passed, left, answered}
use Rattle.jl_task.specs.ValidPoint.{parts_of, AreMany, ActsOn, with_slots, HasScope, AreValidValues, IsGood, AreGood, AreGoodPieces, Says, IsGoodTest, IsGoodAfterStmt, IsGoodAfterItem, AreGoodFrames, AreGoodBelow, AreGoodAnywhere, IsGoodPoint}
use Rattle.jl_task.proofs.GoodLayers.{every_append, says_of, stmt_parts, SaysPiece, piece_part}
use Rattle.jl_task.proofs.ValueTypes.{int_valid, bool_valid, nothing_valid, values_valid, valid_values, value_at_valid, type_is_known}

same_slots : (s : Scope) → with_slots s s.view.slots ≡ s
same_slots s = refl

module _ (P : Program) (views : List View) where
  abbrev Good : Point → Type 0
  Good p = IsGoodPoint P views p

  abbrev Frames : List Frame → Scope → Type 0
  Frames K s = AreGoodFrames P views K s

  abbrev Scoped : Scope → Now → Type 0
  Scoped s n = HasScope P s n.env n.bindings

  -- ---- parts, one after another

  acts_again : (e : Expr) (a b : ℕ) → a ≡ b → ActsOn e a → ActsOn e b
  acts_again e a b h k = subst (ActsOn e) h k

  pub args_good : (e : Expr) (done : List Value) (xs : List Expr) (n : Now) (s : Scope) → Scoped s n → IsGood P views e s → AreValidValues P done → AreGood P views xs s
      → ActsOn e (length done + length xs) → Frames n.stack s → Good (go_args e done xs n)
  args_good e done [] n s c g d a m k = (s, record { scope = c; work = (g, d, acts_again e (length done + 0) (length done) (omega arith) m); waits = k })
  args_good e done (x ∷ xs) n s c g d a m k =
      (s, record { scope = c; work = a.0; waits = (g, d, a.1, acts_again e (length done + suc (length xs)) (length done + 1 + length xs) (omega arith) m, k) })

  -- the form of an expression that acts on its parts
  acts_on : (e : Expr) (x : Expr-F Expr Item Piece Stmt) (m : ℕ) → out-Expr e ≡ x → AreMany m (parts_of x) → ActsOn e m
  acts_on e x m h k = subst (λ y. AreMany m (parts_of y)) (sym h) k

  -- one part is begun, and others may follow
  first_part : (e a : Expr) (xs : List Expr) (n : Now) (s : Scope) → Scoped s n → IsGood P views e s → IsGood P views a s → AreGood P views xs s → ActsOn e (1 + length xs)
      → Frames n.stack s → Good (Eval a, record n { stack = Args e [] xs ∷ n.stack })
  first_part e a xs n s c g d b m k = (s, record { scope = c; work = d; waits = (g, tt, b, m, k) })

  give_good : (v : Value) (n : Now) (s : Scope) → Scoped s n → IsValidValue P v → Frames n.stack s → Good (Give v, n)
  give_good v n s c h k = (s, record { scope = c; work = h; waits = k })

  test_begins : (e test : Expr) (n : Now) (s : Scope) → Scoped s n → IsGood P views test s → IsGoodTest P views (out-Expr e) s → Frames n.stack s → Good (Eval test, record n { stack = Testing e ∷ n.stack })
  test_begins e test n s c g t k = (s, record { scope = c; work = g; waits = (t, k) })

  -- ---- an expression is begun

  layer_begun : (e : Expr) (x : Expr-F Expr Item Piece Stmt) (n : Now) (s : Scope) → out-Expr e ≡ x → IsGood P views e s → Says P views x s → Scoped s n → Frames n.stack s → Good (begun_layer e x n)
  layer_begun e (F.Int i) n s h g y c k = give_good (V.Int i) n s c (int_valid P i) k
  layer_begun e (F.Bool b) n s h g y c k = give_good (V.Bool b) n s c (bool_valid P b) k
  layer_begun e F.Nothing n s h g y c k = give_good V.Nothing n s c (nothing_valid P) k
  layer_begun e (F.Local x) n s h g y c k = give_good (get_or n.env x V.Nothing) n s c (value_at_valid P n.env x (valid_values P n.env c.values)) k
  layer_begun e (F.Call f xs) n s h g y c k = args_good e [] xs n s c g tt y.2 (acts_on e (F.Call f xs) (0 + length xs) h (omega arith)) k
  layer_begun e (F.Latest f xs) n s h g y c k = args_good e [] xs n s c g tt y.2 (acts_on e (F.Latest f xs) (0 + length xs) h (omega arith)) k
  layer_begun e (F.Make t xs) n s h g y c k = args_good e [] xs n s c g tt y.3 (acts_on e (F.Make t xs) (0 + length xs) h (omega arith)) k
  layer_begun e (F.Infer name xs) n s h g y c k = args_good e [] xs n s c g tt y.2 (acts_on e (F.Infer name xs) (0 + length xs) h (omega arith)) k
  layer_begun e (F.Parts xs) n s h g y c k = args_good e [] xs n s c g tt y (acts_on e (F.Parts xs) (0 + length xs) h (omega arith)) k
  layer_begun e (F.Field a name) n s h g y c k = first_part e a [] n s c g y tt (acts_on e (F.Field a name) 1 h refl) k
  layer_begun e (F.Part a number) n s h g y c k = first_part e a [] n s c g y.0 tt (acts_on e (F.Part a number) 1 h refl) k
  layer_begun e (F.Egal a b negated) n s h g y c k = first_part e a (b ∷ []) n s c g y.0 (y.1, tt) (acts_on e (F.Egal a b negated) 2 h refl) k
  layer_begun e (F.Isa a t) n s h g y c k = first_part e a [] n s c g y.2 tt (acts_on e (F.Isa a t) 1 h refl) k
  layer_begun e (F.Sub t u) n s h g y c k = (s, record { scope = c; work = (g, tt, acts_on e (F.Sub t u) 0 h refl); waits = k })
  layer_begun e (F.If test then_ else_) n s h g y c k = test_begins e test n s c y.0 (subst (λ z. IsGoodTest P views z s) (sym h) (y.1, y.2)) k
  layer_begun e (F.And a b) n s h g y c k = test_begins e a n s c y.0 (subst (λ z. IsGoodTest P views z s) (sym h) y.1) k
  layer_begun e (F.Or a b) n s h g y c k = test_begins e a n s c y.0 (subst (λ z. IsGoodTest P views z s) (sym h) y.1) k
  layer_begun e (F.Block xs) n s h g y c k =
      (s, record { scope = c; work = (y, nothing_valid P); waits = λ m. (c.values, subst (λ i. Frames n.stack (with_slots s i)) (sym c.slots) k) })
  layer_begun e (F.Eval xs) n s h g y c k =
      (evaluated s, record { scope = record { slots = refl; values = none; statics = tt }; work = (y, nothing_valid P); waits = λ t. (s, c, k) })
  layer_begun e (F.Spawn place) n s h g y c k = (s, record { scope = c; work = (g, tt, acts_on e (F.Spawn place) 0 h refl); waits = k })
  layer_begun e (F.Delete place) n s h g y c k = (s, record { scope = c; work = (g, tt, acts_on e (F.Delete place) 0 h refl); waits = k })
  layer_begun e (F.Fetch a) n s h g y c k = first_part e a [] n s c g y tt (acts_on e (F.Fetch a) 1 h refl) k
  layer_begun e (F.Print ps line) n s h g y c k = (s, record { scope = c; work = y; waits = k })

  pub begun_good : (e : Expr) (n : Now) → Good (Eval e, n) → Good (begun e n)
  begun_good e n (s, a) = layer_begun e (out-Expr e) n s refl a.work (says_of P views e (out-Expr e) s refl a.work) a.scope a.waits

  -- ---- pieces of a `print`

  piece_good : (x : Piece-F Expr Item Piece Stmt) (text : List ℕ) (xs : List Piece) (line : Bool) (n : Now) (s : Scope) → Scoped s n → SaysPiece P views x s → AreGoodPieces P views xs s → Frames n.stack s
      → Good (go_piece x text xs line n)
  piece_good (F.Text bytes) text xs line n s c y a k = (s, record { scope = c; work = a; waits = k })
  piece_good (F.Show e) text xs line n s c y a k = (s, record { scope = c; work = y; waits = (a, k) })

  pub pieces_good : (text : List ℕ) (ps : List Piece) (line : Bool) (n : Now) → Good (Pieces text ps line, n) → Good (go_pieces text ps line n)
  pieces_good text [] line n (s, a) = (s, record { scope = a.scope; work = nothing_valid P; waits = a.waits })
  pieces_good text (x ∷ xs) line n (s, a) = piece_good (out-Piece x) text xs line n s a.scope (piece_part P views x s a.work.0) a.work.1 a.waits

  -- ---- statements of a block

  pub stmts_good : (xs : List Stmt) (v : Value) (n : Now) → Good (Stmts xs v, n) → Good (go_stmts xs v n)
  stmts_good [] v n (s, a) = (s, record { scope = a.scope; work = a.work.1; waits = a.waits s.view.slots })
  stmts_good (x ∷ xs) v n (s, a) =
      let y = stmt_parts P views x xs s a.work.0 in
      (s, record { scope = a.scope; work = y.0; waits = (y.1, a.waits) })

  -- ---- a value is taken

  take_all : (vs : List Value) → take (length vs) vs ≡ vs
  take_all [] = refl
  take_all (v ∷ vs) = ap (λ us. v ∷ us) (take_all vs)

  -- one more slot is bound
  pub bound_good : (slot : ℕ) (v : Value) (env : List Value) (bindings : List Ty) (s : Scope) → slot ≡ s.view.slots → IsValidValue P v → HasScope P s env bindings → HasScope P (bound s) (bound_at slot v env) bindings
  bound_good slot v env bindings s e h c =
      let all : take slot env ≡ env = ap (λ i. take i env) (e ∙ sym c.slots) ∙ take_all env in
      let is : bound_at slot v env ≡ env ++ v ∷ [] = ap (λ us. us ++ v ∷ []) all in
      let vs : AreValidValues P (env ++ v ∷ []) = every_append (IsValidValue P) env (v ∷ []) (valid_values P env c.values) (h, tt) in
      record {
        slots = ap length is ∙ length-append env (v ∷ []) ∙ ap (λ i. i + 1) c.slots;
        values = values_valid P (bound_at slot v env) (subst (AreValidValues P) (sym is) vs);
        statics = c.statics;
      }

  after_stmt_good : (x : Stmt-F Expr Item Piece Stmt) (xs : List Stmt) (v : Value) (n : Now) (s : Scope) → Scoped s n → IsValidValue P v → IsGoodAfterStmt P views x xs s → AreGoodBelow P views n.stack s
      → Good (after_stmt x xs v n)
  after_stmt_good (F.Stmt::Bind slot e) xs v n s c h y k = (bound s, record { scope = bound_good slot v n.env n.bindings s y.0 h c; work = (y.1, h); waits = k })
  after_stmt_good (F.Stmt::Do e) xs v n s c h y k = (s, record { scope = c; work = (y, h); waits = k })
  after_stmt_good (F.Return e) xs v n s c h y k = (s, record { scope = c; work = h; waits = (with_slots s 0, k 0) })

  after_item_good : (x : Item-F Expr Item Piece Stmt) (fresh : Bool) (xs : List Item) (v : Value) (n : Now) (s : Scope) → Scoped s n → IsValidValue P v → IsGoodAfterItem P views x fresh xs s
      → AreGoodAnywhere P views n.stack → Good (after_item x fresh xs v n)
  after_item_good (F.Define site) fresh xs v n s c h y k = (s, record { scope = c; work = (y, h); waits = k })
  after_item_good (F.Item::Bind slot e) fresh xs v n s c h y k = (bound s, record { scope = bound_good slot v n.env n.bindings s y.0 h c; work = (y.1, h); waits = k })
  after_item_good (F.Item::Do e) fresh xs v n s c h y k = (s, record { scope = c; work = (y, h); waits = k })

  module _ (declared : Declared (all_types P)) where
    refused_good : (v : Value) (n : Now) (s : Scope) → Scoped s n → IsValidValue P v → Good (refused_test v n)
    refused_good v n s c h = (s, record { scope = c; work = type_is_known P declared v h; waits = tt })

    branch_good : (x : Expr-F Expr Item Piece Stmt) (t : Bool) (n : Now) (s : Scope) → Scoped s n → IsGoodTest P views x s → Frames n.stack s → Good (branch x t n)
    branch_good (F.If test then_ else_) true n s c g k = (s, record { scope = c; work = g.0; waits = k })
    branch_good (F.If test then_ else_) false n s c g k = (s, record { scope = c; work = g.1; waits = k })
    branch_good (F.And a b) true n s c g k = (s, record { scope = c; work = g; waits = k })
    branch_good (F.And a b) false n s c g k = give_good (V.Bool false) n s c (bool_valid P false) k
    branch_good (F.Or a b) true n s c g k = give_good (V.Bool true) n s c (bool_valid P true) k
    branch_good (F.Or a b) false n s c g k = (s, record { scope = c; work = g; waits = k })
    branch_good (F.Int i) t n s c g k = absurd g
    branch_good (F.Bool b) t n s c g k = absurd g
    branch_good F.Nothing t n s c g k = absurd g
    branch_good (F.Local x) t n s c g k = absurd g
    branch_good (F.Call f xs) t n s c g k = absurd g
    branch_good (F.Latest f xs) t n s c g k = absurd g
    branch_good (F.Make u xs) t n s c g k = absurd g
    branch_good (F.Infer name xs) t n s c g k = absurd g
    branch_good (F.Parts xs) t n s c g k = absurd g
    branch_good (F.Field a name) t n s c g k = absurd g
    branch_good (F.Part a i) t n s c g k = absurd g
    branch_good (F.Egal a b d) t n s c g k = absurd g
    branch_good (F.Isa a u) t n s c g k = absurd g
    branch_good (F.Sub u w) t n s c g k = absurd g
    branch_good (F.Block xs) t n s c g k = absurd g
    branch_good (F.Eval xs) t n s c g k = absurd g
    branch_good (F.Spawn place) t n s c g k = absurd g
    branch_good (F.Delete place) t n s c g k = absurd g
    branch_good (F.Fetch a) t n s c g k = absurd g
    branch_good (F.Print xs line) t n s c g k = absurd g

    tested_good : (x : Expr-F Expr Item Piece Stmt) (v : Value) (n : Now) (s : Scope) → Scoped s n → IsValidValue P v → IsGoodTest P views x s → Frames n.stack s → Good (tested x v n)
    tested_good x (V.Bool t) n s c h g k = branch_good x t n s c g k
    tested_good x (V.Int i) n s c h g k = refused_good (V.Int i) n s c h
    tested_good x V.Nothing n s c h g k = refused_good V.Nothing n s c h
    tested_good x (V.Task i) n s c h g k = refused_good (V.Task i) n s c h
    tested_good x (V.Tuple d) n s c h g k = refused_good (V.Tuple d) n s c h
    tested_good x (V.Struct d) n s c h g k = refused_good (V.Struct d) n s c h

    taken_good : (f : Frame) (v : Value) (n : Now) (s : Scope) → Scoped s n → IsValidValue P v → Frames (f ∷ n.stack) s → Good (taken P f v n)
    taken_good (Args e done xs) v n s c h k =
        let m : length done + 1 + length xs ≡ length (done ++ v ∷ []) + length xs = ap (λ i. i + length xs) (sym (length-append done (v ∷ []))) in
        args_good e (done ++ v ∷ []) xs n s c k.0 (every_append (IsValidValue P) done (v ∷ []) k.1 (h, tt)) k.2 (acts_again e (length done + 1 + length xs) (length (done ++ v ∷ []) + length xs) m k.3) k.4
    taken_good (Testing e) v n s c h k = tested_good (out-Expr e) v n s c h k.0 k.1
    taken_good (AfterStmt x xs) v n s c h k = after_stmt_good (out-Stmt x) xs v n s c h k.0 k.1
    taken_good (Block env) v n s c h k = (with_slots s (length env), record { scope = record { slots = refl; values = k.0; statics = c.statics }; work = h; waits = k.1 })
    taken_good (AfterItem x fresh w xs) v n s c h k = after_item_good (out-Item x) fresh xs v (record n { world = w }) s c h k.0 k.1
    taken_good (Evaluated env bindings) v n s c h (t, d, k) = (t, record { scope = d; work = h; waits = k })
    taken_good (Showing text xs line) v n s c h k = (s, record { scope = c; work = k.0; waits = k.1 })
    taken_good (Body w r env bindings) v n s c h (t, d, k) = (t, record { scope = d; work = h; waits = k })

    pub given_good : (K : List Frame) (v : Value) (n : Now) → Good (Give v, record n { stack = K }) → Good (given P K v n)
    given_good [] v n (s, a) = (s, record { scope = a.scope; work = a.work; waits = tt })
    given_good (f ∷ K) v n (s, a) = taken_good f v (record n { stack = K }) s a.scope a.work a.waits

  -- ---- a `return` passes

  passed_good : (f : Frame) (v : Value) (n : Now) (s t : Scope) → Scoped s n → IsValidValue P v → Frames (f ∷ n.stack) t → Good (passed f v n)
  passed_good (Args e done xs) v n s t c h k = (s, record { scope = c; work = h; waits = (t, k.4) })
  passed_good (Testing e) v n s t c h k = (s, record { scope = c; work = h; waits = (t, k.1) })
  passed_good (AfterStmt x xs) v n s t c h k = (s, record { scope = c; work = h; waits = (with_slots t 0, k.1 0) })
  passed_good (Block env) v n s t c h k = (s, record { scope = c; work = h; waits = (with_slots t (length env), k.1) })
  passed_good (AfterItem x fresh w xs) v n s t c h k = (s, record { scope = c; work = h; waits = (t, k.1 t) })
  passed_good (Evaluated env bindings) v n s t c h (u, d, k) = (s, record { scope = c; work = h; waits = (u, k) })
  passed_good (Showing text xs line) v n s t c h k = (s, record { scope = c; work = h; waits = (t, k.1) })
  passed_good (Body w r env bindings) v n s t c h (u, d, k) = (u, record { scope = d; work = h; waits = k })

  pub left_good : (K : List Frame) (v : Value) (n : Now) → Good (Leave v, record n { stack = K }) → Good (left K v n)
  left_good [] v n (s, a) = (s, record { scope = a.scope; work = a.work; waits = tt })
  left_good (f ∷ K) v n (s, a) = passed_good f v (record n { stack = K }) s a.waits.0 a.scope a.work a.waits.1

  -- ---- an outcome is given on

  pub answered_good : (o : Outcome) (n : Now) (s : Scope) → Scoped s n → IsValidOutcome P o → Frames n.stack s → Good (answered o, n)
  answered_good (O.Value v) n s c h k = (s, record { scope = c; work = h; waits = k })
  answered_good (O.Error e) n s c h k = (s, record { scope = c; work = h; waits = tt })
