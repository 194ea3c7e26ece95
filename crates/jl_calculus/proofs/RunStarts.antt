-- In a run the starts of the tasks that were spawned are never taken back: what holds of those at the end, and of each list that they
-- go on from, holds of those at each place.
use Rattle.std.proofs.Common.{◌≡◌, sym, subst, ℕ, zero, suc, List, [], ◌∷◌, ◌++◌, map, Bool, true, false, nat_lt, Option, None}
use Rattle.jl_model.specs.declared.ty.Ty.{Ty}
use Rattle.jl_program.specs.declared.choice.Choice.{Choice}
use Rattle.jl_program.specs.declared.choice.Choice.TheVariants as C
use Rattle.jl_program.specs.declared.tree.Expr.{Expr, out-Expr}
use Rattle.jl_program.specs.declared.tree.Stmt.{Stmt, out-Stmt}
use Rattle.jl_program.specs.declared.tree.Item.{Item, out-Item}
use Rattle.jl_program.specs.declared.tree.Piece.{Piece, out-Piece}
use Rattle.jl_program.specs.declared.tree.Expr.TheOpen.{Expr-F, Stmt-F, Item-F, Piece-F}
use Rattle.jl_program.specs.declared.tree.Expr.TheOpen as F
use Rattle.jl_program.specs.declared.tree.Program.{Program}
use Rattle.jl_program.specs.declared.tree.Start.{Start}
use Rattle.jl_program.specs.declared.value.Value.{Value}
use Rattle.jl_program.specs.declared.value.Value.TheVariants as V
use Rattle.jl_program.specs.TypeOf.{type_of}
use Rattle.jl_calculus.specs.declared.history.Event.{Event}
use Rattle.jl_calculus.specs.declared.history.Outcome.{Outcome}
use Rattle.jl_calculus.specs.declared.history.Outcome.TheVariants as O
use Rattle.jl_calculus.specs.declared.history.TraceItem.{TraceItem}
use Rattle.jl_calculus.specs.declared.history.TraceItem.TheVariants.{Look, Def, Del, Spawn, Fetch, WorldFull, TaskFull, Absent}
use Rattle.jl_calculus.specs.Answers.{Answer}
use Rattle.jl_calculus.specs.Kept.{Places}
use Rattle.jl_calculus.specs.Run.{Setting, State, Then, Runs, ItemRuns, PieceRuns, Caller, Body, operation, code, body_of, each_runs, texts_run, stmts_run, items_run, either, with_scope, looks, defines, deletes, spawns, fetched, fetches, fetches_value, decides, answers, operation_runs, expr_runs, stmt_runs, item_runs, piece_runs, runs, runs_stmt, runs_item, runs_piece, chosen, performs, calls}
use Rattle.jl_calculus.specs.World.{site_of}
use Rattle.jl_calculus.proofs.Layers.{runs_is, stmt_is, item_is, piece_is}
use Rattle.jl_calculus.proofs.Induction.{Each, Below, BelowT, BelowI, BelowQ, all, allT, allI, allQ}

module _ (P : Program) (es : List Event) (places : Option Places) (fuel : ℕ) (Q : Outcome → State → Type 0) (L : List Start → Type 0)
    (ends : (o : Outcome) (s : State) → Q o s → L s.starts) (back : (xs : List Start) (x : Start) → L (xs ++ x ∷ []) → L xs) where
  abbrev g : Setting
  g = record { program = P; events = es; places = places; fuel = fuel; until = None }

  abbrev pub Goes : Then → Type 0
  Goes n = (v : Value) (s : State) → n v s → L s.starts

  abbrev pub Starts : Runs → Type 1
  Starts r = (w : ℕ) (s : State) (b n : Then) → Goes b → Goes n → r w s b n → L s.starts

  abbrev pub StartsI : ItemRuns → Type 1
  StartsI r = (s : State) (b n : Then) → Goes b → Goes n → r s b n → L s.starts

  abbrev pub StartsQ : PieceRuns → Type 1
  StartsQ r = (w : ℕ) (s : State) (b : Then) (n : List ℕ → State → Type 0) → Goes b → ((t : List ℕ) (s1 : State) → n t s1 → L s1.starts) → r w s b n → L s.starts

  pub of_looks : (left : List TraceItem) (s : State) (n : ℕ → State → Type 0) → ((w : ℕ) (s1 : State) → n w s1 → L s1.starts) → looks g Q left s n → L s.starts
  of_looks [] s n m k = absurd k
  of_looks (Look w p ∷ rest) s n m k = m w _ k
  of_looks (Def made p ∷ rest) s n m k = absurd k
  of_looks (Spawn child p ∷ rest) s n m k = absurd k
  of_looks (Fetch task o p ∷ rest) s n m k = absurd k
  of_looks (WorldFull p ∷ rest) s n m k = absurd k
  of_looks (TaskFull p ∷ rest) s n m k = absurd k
  of_looks (Del at_place p ∷ rest) s n m k = absurd k
  of_looks (Absent at_place p ∷ rest) s n m k = absurd k

  pub of_defines : (left : List TraceItem) (site : ℕ) (s : State) (n : State → Type 0) → ((s1 : State) → n s1 → L s1.starts) → defines g Q left site s n → L s.starts
  of_defines [] site s n m k = absurd k
  of_defines (Def made p ∷ rest) site s n m k = m _ k.1
  of_defines (WorldFull p ∷ rest) site s n m k = ends _ _ k
  of_defines (Look w p ∷ rest) site s n m k = absurd k
  of_defines (Spawn child p ∷ rest) site s n m k = absurd k
  of_defines (Fetch task o p ∷ rest) site s n m k = absurd k
  of_defines (TaskFull p ∷ rest) site s n m k = absurd k
  of_defines (Del at_place p ∷ rest) site s n m k = absurd k
  of_defines (Absent at_place p ∷ rest) site s n m k = absurd k

  pub of_deletes : (left : List TraceItem) (place : ℕ) (s : State) (n : State → Type 0) → ((s1 : State) → n s1 → L s1.starts) → deletes g Q left place s n → L s.starts
  of_deletes [] place s n m k = absurd k
  of_deletes (Del made p ∷ rest) place s n m k = m _ k.1
  of_deletes (Absent made p ∷ rest) place s n m k = ends _ _ k.1
  of_deletes (WorldFull p ∷ rest) place s n m k = ends _ _ k
  of_deletes (Look w p ∷ rest) place s n m k = absurd k
  of_deletes (Def made p ∷ rest) place s n m k = absurd k
  of_deletes (Spawn child p ∷ rest) place s n m k = absurd k
  of_deletes (Fetch task o p ∷ rest) place s n m k = absurd k
  of_deletes (TaskFull p ∷ rest) place s n m k = absurd k

  pub of_spawns : (left : List TraceItem) (start : Start) (s : State) (n : Then) → Goes n → spawns g Q left start s n → L s.starts
  of_spawns [] start s n m k = absurd k
  of_spawns (Spawn child p ∷ rest) start s n m k = back s.starts start (m _ _ k)
  of_spawns (TaskFull p ∷ rest) start s n m k = ends _ _ k
  of_spawns (Look w p ∷ rest) start s n m k = absurd k
  of_spawns (Def made p ∷ rest) start s n m k = absurd k
  of_spawns (Fetch task o p ∷ rest) start s n m k = absurd k
  of_spawns (WorldFull p ∷ rest) start s n m k = absurd k
  of_spawns (Del at_place p ∷ rest) start s n m k = absurd k
  of_spawns (Absent at_place p ∷ rest) start s n m k = absurd k

  pub of_fetched : (task : ℕ) (o : Outcome) (s : State) (n : Then) → Goes n → fetched g Q task o s n → L s.starts
  of_fetched task (O.Value v) s n m k = m v s k
  of_fetched task (O.Error e) s n m k = ends _ _ k

  pub of_fetches : (left : List TraceItem) (of : ℕ) (s : State) (n : Then) → Goes n → fetches g Q left of s n → L s.starts
  of_fetches [] of s n m k = absurd k
  of_fetches (Fetch task o p ∷ rest) of s n m k = of_fetched task o _ n m k.1
  of_fetches (Look w p ∷ rest) of s n m k = absurd k
  of_fetches (Def made p ∷ rest) of s n m k = absurd k
  of_fetches (Spawn child p ∷ rest) of s n m k = absurd k
  of_fetches (WorldFull p ∷ rest) of s n m k = absurd k
  of_fetches (TaskFull p ∷ rest) of s n m k = absurd k
  of_fetches (Del at_place p ∷ rest) of s n m k = absurd k
  of_fetches (Absent at_place p ∷ rest) of s n m k = absurd k

  pub of_value : (v : Value) (s : State) (n : Then) → Goes n → fetches_value g Q v s n → L s.starts
  of_value (V.Task task) s n m k = of_fetches s.left task s n m k
  of_value (V.Int i) s n m k = ends _ _ k
  of_value (V.Bool b) s n m k = ends _ _ k
  of_value V.Nothing s n m k = ends _ _ k
  of_value (V.Tuple c) s n m k = ends _ _ k
  of_value (V.Struct c) s n m k = ends _ _ k

  pub of_decides : (v : Value) (s : State) (n : Bool → Type 0) → (n true → L s.starts) → (n false → L s.starts) → decides g Q v s n → L s.starts
  of_decides (V.Bool true) s n on_true on_false k = on_true k
  of_decides (V.Bool false) s n on_true on_false k = on_false k
  of_decides (V.Int i) s n on_true on_false k = ends _ _ k
  of_decides V.Nothing s n on_true on_false k = ends _ _ k
  of_decides (V.Task t) s n on_true on_false k = ends _ _ k
  of_decides (V.Tuple c) s n on_true on_false k = ends _ _ k
  of_decides (V.Struct c) s n on_true on_false k = ends _ _ k

  pub of_answers : (o : Outcome) (s : State) (n : Then) → Goes n → answers g Q o s n → L s.starts
  of_answers (O.Value v) s n m k = m v s k
  of_answers (O.Error e) s n m k = ends _ _ k

  pub of_operation : (A : Answer) (s : State) (n : Then) → Goes n → operation_runs g Q A s n → L s.starts
  of_operation A s n m (o, is, k) = of_answers o s n m k

  pub of_each : {X : Type 0} (r : X → Runs) (xs : List X) → Each (λ x. Starts (r x)) xs → (done : List Value) (w : ℕ) (s : State) (b : Then) (n : List Value → State → Type 0)
      → Goes b → ((vs : List Value) (s1 : State) → n vs s1 → L s1.starts) → each_runs r xs done w s b n → L s.starts
  of_each r [] t done w s b n mb m k = m done s k
  of_each r (x ∷ xs) t done w s b n mb m k = t.0 w s b _ mb (λ v s1. of_each r xs t.1 (done ++ v ∷ []) w s1 b n mb m) k

  pub of_texts : {X : Type 0} (r : X → PieceRuns) (xs : List X) → Each (λ x. StartsQ (r x)) xs → (text : List ℕ) → StartsQ (texts_run r xs text)
  of_texts r [] t text w s b n mb m k = m text s k
  of_texts r (x ∷ xs) t text w s b n mb m k = t.0 w s b _ mb (λ u s1. of_texts r xs t.1 (text ++ u) w s1 b n mb m) k

  pub of_stmts : {X : Type 0} (r : X → Runs) (xs : List X) → Each (λ x. Starts (r x)) xs → (last : Value) → Starts (stmts_run r xs last)
  of_stmts r [] t last w s b n mb m k = m last s k
  of_stmts r (x ∷ xs) t last w s b n mb m k = t.0 w s b _ mb (λ v s1. of_stmts r xs t.1 v w s1 b n mb m) k

  pub of_items : {X : Type 0} (r : X → ItemRuns) (xs : List X) → Each (λ x. StartsI (r x)) xs → (last : Value) → StartsI (items_run r xs last)
  of_items r [] t last s b n mb m k = m last s k
  of_items r (x ∷ xs) t last s b n mb m k = t.0 s b _ mb (λ v s1. of_items r xs t.1 v s1 b n mb m) k

  -- statements that see no names
  pub of_bare : {X : Type 0} (r : X → ItemRuns) (xs : List X) → Each (λ x. StartsI (r x)) xs → Each (λ x. StartsI (λ s. r x (with_scope s [] []))) xs
  of_bare r [] t = tt
  of_bare r (x ∷ xs) t = ((λ s b n mb m k. t.0 (with_scope s [] []) b n mb m k), of_bare r xs t.1)

  module _ (called : Caller) (of_called : (f : ℕ) (vs : List Value) (w : ℕ) (s : State) (n : Then) → Goes n → called f vs w s n → L s.starts) where
    abbrev PE : Expr → Type 1
    PE e = Starts (runs g Q called e)

    abbrev PT : Stmt → Type 1
    PT x = Starts (runs_stmt g Q called x)

    abbrev PI : Item → Type 1
    PI x = StartsI (runs_item g Q called x)

    abbrev PQ : Piece → Type 1
    PQ x = StartsQ (runs_piece g Q called x)

    abbrev layer : Expr-F Expr Item Piece Stmt → Runs
    layer = expr_runs g Q called (runs g Q called) (runs_item g Q called) (runs_piece g Q called) (runs_stmt g Q called)

    abbrev layerT : Stmt-F Expr Item Piece Stmt → Runs
    layerT = stmt_runs g Q called (runs g Q called) (runs_item g Q called) (runs_piece g Q called) (runs_stmt g Q called)

    abbrev layerI : Item-F Expr Item Piece Stmt → ItemRuns
    layerI = item_runs g Q called (runs g Q called) (runs_item g Q called) (runs_piece g Q called) (runs_stmt g Q called)

    abbrev layerQ : Piece-F Expr Item Piece Stmt → PieceRuns
    layerQ = piece_runs g Q called (runs g Q called) (runs_item g Q called) (runs_piece g Q called) (runs_stmt g Q called)

    of_layer : (x : Expr-F Expr Item Piece Stmt) → Below PE PI PQ PT x → Starts (layer x)
    of_layer (F.Int i) t w s b n mb m k = m _ _ k
    of_layer (F.Bool i) t w s b n mb m k = m _ _ k
    of_layer F.Nothing t w s b n mb m k = m _ _ k
    of_layer (F.Local x) t w s b n mb m k = m _ _ k
    of_layer (F.Call f xs) t w s b n mb m k = of_each _ xs t [] w s b _ mb (λ vs s1. of_called f vs w s1 n m) k
    of_layer (F.Latest f xs) t w s b n mb m k = of_each _ xs t [] w s b _ mb (λ vs s1. of_looks s1.left s1 _ (λ v s2. of_called f vs v s2 n m)) k
    of_layer (F.Make ty xs) t w s b n mb m k = of_each _ xs t [] w s b _ mb (λ vs s1. of_operation _ s1 n m) k
    of_layer (F.Infer name xs) t w s b n mb m k = of_each _ xs t [] w s b _ mb (λ vs s1. of_operation _ s1 n m) k
    of_layer (F.Parts xs) t w s b n mb m k = of_each _ xs t [] w s b _ mb (λ vs s1. of_operation _ s1 n m) k
    of_layer (F.Field x name) t w s b n mb m k = t w s b _ mb (λ v s1. of_answers _ s1 n m) k
    of_layer (F.Part x number) t w s b n mb m k = t w s b _ mb (λ v s1. of_answers _ s1 n m) k
    of_layer (F.Egal x y negated) t w s b n mb m k = t.0 w s b _ mb (λ u s1. t.1 w s1 b _ mb (λ v s2. of_operation _ s2 n m)) k
    of_layer (F.Isa x ty) t w s b n mb m k = t w s b _ mb (λ v s1. of_operation _ s1 n m) k
    of_layer (F.Sub ty ty') t w s b n mb m k = of_operation _ s n m k
    of_layer (F.If x y z) t w s b n mb m k = t.0 w s b _ mb (λ v s1. of_decides v s1 _ (t.1 w s1 b n mb m) (t.2 w s1 b n mb m)) k
    of_layer (F.And x y) t w s b n mb m k = t.0 w s b _ mb (λ v s1. of_decides v s1 _ (t.1 w s1 b n mb m) (m _ _)) k
    of_layer (F.Or x y) t w s b n mb m k = t.0 w s b _ mb (λ v s1. of_decides v s1 _ (m _ _) (t.1 w s1 b n mb m)) k
    of_layer (F.Block xs) t w s b n mb m k = of_stmts _ xs t V.Nothing w s b _ mb (λ v s1. m v _) k
    of_layer (F.Eval xs) t w s b n mb m k = of_items _ xs (of_bare (runs_item g Q called) xs t) V.Nothing s b _ mb (λ v s1. m v _) k
    of_layer (F.Spawn place) t w s b n mb m k = of_spawns s.left _ s n m k
    of_layer (F.Delete place) t w s b n mb m k = of_deletes s.left place s _ (λ s1. m _ _) k
    of_layer (F.Fetch x) t w s b n mb m k = t w s b _ mb (λ v s1. of_value v s1 n m) k
    of_layer (F.Print xs line) t w s b n mb m k = of_texts _ xs t [] w s b _ mb (λ u s1. m _ _) k

    of_stmt_layer : (x : Stmt-F Expr Item Piece Stmt) → BelowT PE PI PQ PT x → Starts (layerT x)
    of_stmt_layer (F.Stmt::Bind slot x) t w s b n mb m k = t w s b _ mb (λ v s1. m v _) k
    of_stmt_layer (F.Stmt::Do x) t w s b n mb m k = t w s b n mb m k
    of_stmt_layer (F.Return x) t w s b n mb m k = t w s b b mb mb k

    of_item_layer : (x : Item-F Expr Item Piece Stmt) → BelowI PE PI PQ PT x → StartsI (layerI x)
    of_item_layer (F.Define site) t s b n mb m k = of_looks s.left s _ (λ w s1. of_defines s1.left site s1 _ (λ s2. m _ _)) k
    of_item_layer (F.Item::Bind slot x) t s b n mb m k = of_looks s.left s _ (λ w s1. t w s1 b _ mb (λ v s2. m v _)) k
    of_item_layer (F.Item::Do x) t s b n mb m k = of_looks s.left s _ (λ w s1. t w s1 b n mb m) k

    of_piece_layer : (x : Piece-F Expr Item Piece Stmt) → BelowQ PE PI PQ PT x → StartsQ (layerQ x)
    of_piece_layer (F.Text bytes) t w s b n mb m k = m _ _ k
    of_piece_layer (F.Show x) t w s b n mb m k = t w s b _ mb (λ v s1. m _ _) k

    one : (r q : Runs) → r ≡ q → Starts q → Starts r
    one r q e t = subst Starts (sym e) t

    stepE : (e : Expr) → Below PE PI PQ PT (out-Expr e) → PE e
    stepE e t = one _ _ (runs_is g Q called e) (of_layer (out-Expr e) t)

    stepI : (x : Item) → BelowI PE PI PQ PT (out-Item x) → PI x
    stepI x t = subst StartsI (sym (item_is g Q called x)) (of_item_layer (out-Item x) t)

    stepQ : (x : Piece) → BelowQ PE PI PQ PT (out-Piece x) → PQ x
    stepQ x t = subst StartsQ (sym (piece_is g Q called x)) (of_piece_layer (out-Piece x) t)

    stepT : (x : Stmt) → BelowT PE PI PQ PT (out-Stmt x) → PT x
    stepT x t = one _ _ (stmt_is g Q called x) (of_stmt_layer (out-Stmt x) t)

    pub of_expr : (e : Expr) → PE e
    of_expr = all PE PI PQ PT stepE stepI stepQ stepT

    pub of_exprs : (xs : List Expr) → Each PE xs
    of_exprs [] = tt
    of_exprs (x ∷ xs) = (of_expr x, of_exprs xs)

    pub of_all_stmts : (xs : List Stmt) → Each PT xs
    of_all_stmts [] = tt
    of_all_stmts (x ∷ xs) = (allT PE PI PQ PT stepE stepI stepQ stepT x, of_all_stmts xs)

    pub of_all_items : (xs : List Item) → Each PI xs
    of_all_items [] = tt
    of_all_items (x ∷ xs) = (allI PE PI PQ PT stepE stepI stepQ stepT x, of_all_items xs)

    pub of_all_pieces : (xs : List Piece) → Each PQ xs
    of_all_pieces [] = tt
    of_all_pieces (x ∷ xs) = (allQ PE PI PQ PT stepE stepI stepQ stepT x, of_all_pieces xs)

  of_counted : (y : Bool) (go : Type 0) (s : State) (o : Outcome) → (go → L s.starts) → either y go (Q o s) → L s.starts
  of_counted true go s o m k = m k
  of_counted false go s o m k = ends o s k

  of_chosen : (c : Choice) (f : ℕ) (ts : List Ty) (w : ℕ) (s : State) (n : ℕ → Type 0) → ((site : ℕ) → n site → L s.starts) → chosen g Q c f ts w s n → L s.starts
  of_chosen (C.Method d) f ts w s n m k = m (site_of es d) k
  of_chosen C.None f ts w s n m k = ends _ _ k
  of_chosen (C.Ambiguous a b) f ts w s n m k = ends _ _ k

  of_performs : (body : Body) (vs : List Value) (s : State) (n : Then) (go : List Ty → Expr → Type 0) → Goes n → ((types : List Ty) (e : Expr) → go types e → L s.starts) → performs g Q body vs s n go → L s.starts
  of_performs (operation o) vs s n go m mg k = of_answers _ s n m k
  of_performs (code sig e) vs s n go m mg k = mg _ e k

  pub of_calls : (room f : ℕ) (vs : List Value) (w : ℕ) (s : State) (n : Then) → Goes n → calls g Q room f vs w s n → L s.starts
  of_calls zero f vs w s n m k = of_counted (nat_lt s.calls fuel) _ s _ (λ x. ends _ _ x) k
  of_calls (suc room) f vs w s n m k =
      of_counted (nat_lt s.calls fuel) _ s _ (λ x. of_chosen x.0 f (map type_of vs) w _ _ (λ site. of_performs (body_of P site) vs _ n _ m
      (λ types e. of_expr (calls g Q room) (of_calls room) e w _ _ _ (λ v s1. m v _) (λ v s1. m v _))) x.3) k
