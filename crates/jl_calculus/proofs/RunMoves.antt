-- A run over one setting is a run over another that answers its calls alike: over more events, and without places.
use Rattle.std.proofs.Common.{◌≡◌, sym, subst, refl, ℕ, zero, suc, List, [], ◌∷◌, ◌++◌, map, Bool, true, false, nat_lt, Option, Some, None, slice_get}
use Rattle.jl_model.specs.declared.ty.Ty.{Ty}
use Rattle.jl_program.specs.declared.choice.Choice.{Choice}
use Rattle.jl_program.specs.declared.choice.Choice.TheVariants as C
use Rattle.jl_program.specs.declared.tree.Expr.{Expr, out-Expr}
use Rattle.jl_program.specs.declared.tree.Stmt.{Stmt, out-Stmt}
use Rattle.jl_program.specs.declared.tree.Item.{Item, out-Item}
use Rattle.jl_program.specs.declared.tree.Piece.{Piece, out-Piece}
use Rattle.jl_program.specs.declared.tree.Expr.TheOpen.{Expr-F, Stmt-F, Item-F, Piece-F}
use Rattle.jl_program.specs.declared.tree.Expr.TheOpen as F
use Rattle.jl_program.specs.declared.tree.Program.{Program}
use Rattle.jl_program.specs.declared.tree.Start.{Start}
use Rattle.jl_program.specs.declared.value.Value.{Value}
use Rattle.jl_program.specs.declared.value.Value.TheVariants as V
use Rattle.jl_program.specs.TypeOf.{type_of}
use Rattle.jl_calculus.specs.declared.history.Event.{Event}
use Rattle.jl_calculus.specs.declared.history.Outcome.{Outcome}
use Rattle.jl_calculus.specs.declared.history.Outcome.TheVariants as O
use Rattle.jl_calculus.specs.declared.history.TraceItem.{TraceItem}
use Rattle.jl_calculus.specs.declared.history.TraceItem.TheVariants.{Look, Def, Del, Spawn, Fetch, WorldFull, TaskFull, Absent}
use Rattle.jl_calculus.specs.Answers.{Answer}
use Rattle.jl_calculus.specs.Kept.{Places, Keeps}
use Rattle.jl_calculus.specs.Run.{Question, Setting, State, Then, Runs, ItemRuns, PieceRuns, Caller, Body, operation, code, body_of, each_runs, texts_run, stmts_run, items_run, either, with_scope, looks, defines, deletes, spawns, fetched, fetches, fetches_value, decides, answers, operation_runs, expr_runs, stmt_runs, item_runs, piece_runs, runs, runs_stmt, runs_item, runs_piece, chosen, performs, calls, open_calls, first_state, task_runs, task_state, IsEnd, Run}
use Rattle.jl_calculus.specs.World.{site_of, Selects}
use Rattle.jl_calculus.proofs.Layers.{runs_is, stmt_is, item_is, piece_is}
use Rattle.jl_calculus.proofs.Induction.{Each, Below, BelowT, BelowI, BelowQ, all, allI}

-- each world that a trace looked at is one of these
abbrev pub LooksIn : (ℕ → Type 0) → List TraceItem → Type 0
LooksIn In [] = Unit {0}
LooksIn In (Look w p ∷ is) = In w × LooksIn In is
LooksIn In (Def site p ∷ is) = LooksIn In is
LooksIn In (Spawn child p ∷ is) = LooksIn In is
LooksIn In (Fetch task o p ∷ is) = LooksIn In is
LooksIn In (WorldFull p ∷ is) = LooksIn In is
LooksIn In (TaskFull p ∷ is) = LooksIn In is
LooksIn In (Del at_place p ∷ is) = LooksIn In is
LooksIn In (Absent at_place p ∷ is) = LooksIn In is

-- the world of a start; the root's top is in no world
abbrev pub StartsIn : (ℕ → Type 0) → Option Start → Type 0
StartsIn In None = Unit {0}
StartsIn In (Some start) = In start.world

-- The worlds in which calls are made, two lists of events and two choices of places. Each choice for a call in such a world, where
-- the call is kept, is that over the other events as well, is kept there, and is of the same site.
pub record AnswersAlike (P : Program) (In : ℕ → Type 0) (es es' : List Event) (places places' : Option Places) : Type 0 where
  pub selects : (f : ℕ) (ts : List Ty) (w : ℕ) (c : Choice) → In w → Selects P es f ts w c → Selects P es' f ts w c
  pub keeps : (f : ℕ) (ts : List Ty) (w : ℕ) → In w → Keeps P es places f ts w → Keeps P es' places' f ts w
  pub site : (f : ℕ) (ts : List Ty) (w d : ℕ) → In w → Selects P es f ts w (C.Method d) → site_of es d ≡ site_of es' d

module _ (P : Program) (fuel : ℕ) (until : Option Question) (In : ℕ → Type 0) (es es' : List Event) (places places' : Option Places) (alike : AnswersAlike P In es es' places places') (Q : Outcome → State → Type 0) where
  abbrev g : Setting
  g = record { program = P; events = es; places = places; fuel = fuel; until = until }

  abbrev h : Setting
  h = record { program = P; events = es'; places = places'; fuel = fuel; until = until }

  abbrev Fine : State → Type 0
  Fine s = LooksIn In s.left

  abbrev Leads : Then → Then → Type 0
  Leads n n' = (v : Value) (s : State) → Fine s → n v s → n' v s

  abbrev Moves : Runs → Runs → Type 1
  Moves r r' = (w : ℕ) (s : State) (b b' n n' : Then) → In w → Fine s → Leads b b' → Leads n n' → r w s b n → r' w s b' n'

  abbrev MovesI : ItemRuns → ItemRuns → Type 1
  MovesI r r' = (s : State) (b b' n n' : Then) → Fine s → Leads b b' → Leads n n' → r s b n → r' s b' n'

  abbrev MovesQ : PieceRuns → PieceRuns → Type 1
  MovesQ r r' = (w : ℕ) (s : State) (b b' : Then) (n n' : List ℕ → State → Type 0) → In w → Fine s → Leads b b' → ((t : List ℕ) (s1 : State) → Fine s1 → n t s1 → n' t s1) → r w s b n → r' w s b' n'

  moves_looks : (left : List TraceItem) (s : State) (n n' : ℕ → State → Type 0) → LooksIn In left → ((w : ℕ) (s1 : State) → In w → Fine s1 → n w s1 → n' w s1) → looks g Q left s n → looks h Q left s n'
  moves_looks [] s n n' a m k = k
  moves_looks (Look w p ∷ rest) s n n' a m k = m w _ a.0 a.1 k
  moves_looks (Def made p ∷ rest) s n n' a m k = absurd k
  moves_looks (Spawn child p ∷ rest) s n n' a m k = absurd k
  moves_looks (Fetch task o p ∷ rest) s n n' a m k = absurd k
  moves_looks (WorldFull p ∷ rest) s n n' a m k = absurd k
  moves_looks (TaskFull p ∷ rest) s n n' a m k = absurd k
  moves_looks (Del at_place p ∷ rest) s n n' a m k = absurd k
  moves_looks (Absent at_place p ∷ rest) s n n' a m k = absurd k

  moves_defines : (left : List TraceItem) (site : ℕ) (s : State) (n n' : State → Type 0) → LooksIn In left → ((s1 : State) → Fine s1 → n s1 → n' s1) → defines g Q left site s n → defines h Q left site s n'
  moves_defines [] site s n n' a m k = k
  moves_defines (Def made p ∷ rest) site s n n' a m k = (k.0, m _ a k.1)
  moves_defines (WorldFull p ∷ rest) site s n n' a m k = k
  moves_defines (Look w p ∷ rest) site s n n' a m k = absurd k
  moves_defines (Spawn child p ∷ rest) site s n n' a m k = absurd k
  moves_defines (Fetch task o p ∷ rest) site s n n' a m k = absurd k
  moves_defines (TaskFull p ∷ rest) site s n n' a m k = absurd k
  moves_defines (Del at_place p ∷ rest) site s n n' a m k = absurd k
  moves_defines (Absent at_place p ∷ rest) site s n n' a m k = absurd k

  moves_deletes : (left : List TraceItem) (place : ℕ) (s : State) (n n' : State → Type 0) → LooksIn In left → ((s1 : State) → Fine s1 → n s1 → n' s1) → deletes g Q left place s n → deletes h Q left place s n'
  moves_deletes [] place s n n' a m k = k
  moves_deletes (Del made p ∷ rest) place s n n' a m k = (k.0, m _ a k.1)
  moves_deletes (Absent made p ∷ rest) place s n n' a m k = k
  moves_deletes (WorldFull p ∷ rest) place s n n' a m k = k
  moves_deletes (Look w p ∷ rest) place s n n' a m k = absurd k
  moves_deletes (Def made p ∷ rest) place s n n' a m k = absurd k
  moves_deletes (Spawn child p ∷ rest) place s n n' a m k = absurd k
  moves_deletes (Fetch task o p ∷ rest) place s n n' a m k = absurd k
  moves_deletes (TaskFull p ∷ rest) place s n n' a m k = absurd k

  moves_spawns : (left : List TraceItem) (start : Start) (s : State) (n n' : Then) → LooksIn In left → Leads n n' → spawns g Q left start s n → spawns h Q left start s n'
  moves_spawns [] start s n n' a m k = k
  moves_spawns (Spawn child p ∷ rest) start s n n' a m k = m _ _ a k
  moves_spawns (TaskFull p ∷ rest) start s n n' a m k = k
  moves_spawns (Look w p ∷ rest) start s n n' a m k = absurd k
  moves_spawns (Def made p ∷ rest) start s n n' a m k = absurd k
  moves_spawns (Fetch task o p ∷ rest) start s n n' a m k = absurd k
  moves_spawns (WorldFull p ∷ rest) start s n n' a m k = absurd k
  moves_spawns (Del at_place p ∷ rest) start s n n' a m k = absurd k
  moves_spawns (Absent at_place p ∷ rest) start s n n' a m k = absurd k

  moves_fetched : (task : ℕ) (o : Outcome) (s : State) (n n' : Then) → Fine s → Leads n n' → fetched g Q task o s n → fetched h Q task o s n'
  moves_fetched task (O.Value v) s n n' a m k = m v s a k
  moves_fetched task (O.Error e) s n n' a m k = k

  moves_fetches : (left : List TraceItem) (of : ℕ) (s : State) (n n' : Then) → LooksIn In left → Leads n n' → fetches g Q left of s n → fetches h Q left of s n'
  moves_fetches [] of s n n' a m k = k
  moves_fetches (Fetch task o p ∷ rest) of s n n' a m k = (k.0, moves_fetched task o _ n n' a m k.1)
  moves_fetches (Look w p ∷ rest) of s n n' a m k = absurd k
  moves_fetches (Def made p ∷ rest) of s n n' a m k = absurd k
  moves_fetches (Spawn child p ∷ rest) of s n n' a m k = absurd k
  moves_fetches (WorldFull p ∷ rest) of s n n' a m k = absurd k
  moves_fetches (TaskFull p ∷ rest) of s n n' a m k = absurd k
  moves_fetches (Del at_place p ∷ rest) of s n n' a m k = absurd k
  moves_fetches (Absent at_place p ∷ rest) of s n n' a m k = absurd k

  moves_value : (v : Value) (s : State) (n n' : Then) → Fine s → Leads n n' → fetches_value g Q v s n → fetches_value h Q v s n'
  moves_value (V.Task task) s n n' a m k = moves_fetches s.left task s n n' a m k
  moves_value (V.Int i) s n n' a m k = k
  moves_value (V.Bool b) s n n' a m k = k
  moves_value V.Nothing s n n' a m k = k
  moves_value (V.Tuple c) s n n' a m k = k
  moves_value (V.Struct c) s n n' a m k = k

  moves_decides : (v : Value) (s : State) (n n' : Bool → Type 0) → (n true → n' true) → (n false → n' false) → decides g Q v s n → decides h Q v s n'
  moves_decides (V.Bool true) s n n' on_true on_false k = on_true k
  moves_decides (V.Bool false) s n n' on_true on_false k = on_false k
  moves_decides (V.Int i) s n n' on_true on_false k = k
  moves_decides V.Nothing s n n' on_true on_false k = k
  moves_decides (V.Task t) s n n' on_true on_false k = k
  moves_decides (V.Tuple c) s n n' on_true on_false k = k
  moves_decides (V.Struct c) s n n' on_true on_false k = k

  moves_answers : (o : Outcome) (s : State) (n n' : Then) → Fine s → Leads n n' → answers g Q o s n → answers h Q o s n'
  moves_answers (O.Value v) s n n' a m k = m v s a k
  moves_answers (O.Error e) s n n' a m k = k

  moves_operation : (A : Answer) (s : State) (n n' : Then) → Fine s → Leads n n' → operation_runs g Q A s n → operation_runs h Q A s n'
  moves_operation A s n n' a m (o, is, k) = (o, is, moves_answers o s n n' a m k)

  moves_each : {X : Type 0} (r r' : X → Runs) (xs : List X) → Each (λ x. Moves (r x) (r' x)) xs → (done : List Value) (w : ℕ) (s : State) (b b' : Then) (n n' : List Value → State → Type 0)
      → In w → Fine s → Leads b b' → ((vs : List Value) (s1 : State) → Fine s1 → n vs s1 → n' vs s1) → each_runs r xs done w s b n → each_runs r' xs done w s b' n'
  moves_each r r' [] t done w s b b' n n' i a mb m k = m _ _ a k
  moves_each r r' (x ∷ xs) t done w s b b' n n' i a mb m k = t.0 w s b b' _ _ i a mb (λ v s1 a1. moves_each r r' xs t.1 (done ++ v ∷ []) w s1 b b' n n' i a1 mb m) k

  moves_texts : {X : Type 0} (r r' : X → PieceRuns) (xs : List X) → Each (λ x. MovesQ (r x) (r' x)) xs → (text : List ℕ) → MovesQ (texts_run r xs text) (texts_run r' xs text)
  moves_texts r r' [] t text w s b b' n n' i a mb m k = m _ _ a k
  moves_texts r r' (x ∷ xs) t text w s b b' n n' i a mb m k = t.0 w s b b' _ _ i a mb (λ u s1 a1. moves_texts r r' xs t.1 (text ++ u) w s1 b b' n n' i a1 mb m) k

  moves_stmts : {X : Type 0} (r r' : X → Runs) (xs : List X) → Each (λ x. Moves (r x) (r' x)) xs → (last : Value) → Moves (stmts_run r xs last) (stmts_run r' xs last)
  moves_stmts r r' [] t last w s b b' n n' i a mb m k = m _ _ a k
  moves_stmts r r' (x ∷ xs) t last w s b b' n n' i a mb m k = t.0 w s b b' _ _ i a mb (λ v s1 a1. moves_stmts r r' xs t.1 v w s1 b b' n n' i a1 mb m) k

  moves_items : {X : Type 0} (r r' : X → ItemRuns) (xs : List X) → Each (λ x. MovesI (r x) (r' x)) xs → (last : Value) → MovesI (items_run r xs last) (items_run r' xs last)
  moves_items r r' [] t last s b b' n n' a mb m k = m _ _ a k
  moves_items r r' (x ∷ xs) t last s b b' n n' a mb m k = t.0 s b b' _ _ a mb (λ v s1 a1. moves_items r r' xs t.1 v s1 b b' n n' a1 mb m) k

  -- statements that see no names
  bare_items : {X : Type 0} (r r' : X → ItemRuns) (xs : List X) → Each (λ x. MovesI (r x) (r' x)) xs
      → Each (λ x. MovesI (λ s. r x (with_scope s [] [])) (λ s. r' x (with_scope s [] []))) xs
  bare_items r r' [] t = tt
  bare_items r r' (x ∷ xs) t = ((λ s b b' n n' a mb m k. t.0 (with_scope s [] []) b b' n n' a mb m k), bare_items r r' xs t.1)

  module _ (called called' : Caller) (moves_called : (f : ℕ) (vs : List Value) (w : ℕ) (s : State) (n n' : Then) → In w → Fine s → Leads n n' → called f vs w s n → called' f vs w s n') where
    abbrev PE : Expr → Type 1
    PE e = Moves (runs g Q called e) (runs h Q called' e)

    abbrev PT : Stmt → Type 1
    PT x = Moves (runs_stmt g Q called x) (runs_stmt h Q called' x)

    abbrev PI : Item → Type 1
    PI x = MovesI (runs_item g Q called x) (runs_item h Q called' x)

    abbrev PQ : Piece → Type 1
    PQ x = MovesQ (runs_piece g Q called x) (runs_piece h Q called' x)

    abbrev layer : Setting → Caller → Expr-F Expr Item Piece Stmt → Runs
    layer k c = expr_runs k Q c (runs k Q c) (runs_item k Q c) (runs_piece k Q c) (runs_stmt k Q c)

    abbrev layerT : Setting → Caller → Stmt-F Expr Item Piece Stmt → Runs
    layerT k c = stmt_runs k Q c (runs k Q c) (runs_item k Q c) (runs_piece k Q c) (runs_stmt k Q c)

    abbrev layerI : Setting → Caller → Item-F Expr Item Piece Stmt → ItemRuns
    layerI k c = item_runs k Q c (runs k Q c) (runs_item k Q c) (runs_piece k Q c) (runs_stmt k Q c)

    abbrev layerQ : Setting → Caller → Piece-F Expr Item Piece Stmt → PieceRuns
    layerQ k c = piece_runs k Q c (runs k Q c) (runs_item k Q c) (runs_piece k Q c) (runs_stmt k Q c)

    moves_layer : (x : Expr-F Expr Item Piece Stmt) → Below PE PI PQ PT x → Moves (layer g called x) (layer h called' x)
    moves_layer (F.Int i) t w s b b' n n' i1 a mb m k = m _ _ a k
    moves_layer (F.Bool i) t w s b b' n n' i1 a mb m k = m _ _ a k
    moves_layer F.Nothing t w s b b' n n' i1 a mb m k = m _ _ a k
    moves_layer (F.Local x) t w s b b' n n' i1 a mb m k = m _ _ a k
    moves_layer (F.Call f xs) t w s b b' n n' i a mb m k = moves_each _ _ xs t [] w s b b' _ _ i a mb (λ vs s1 a1. moves_called f vs w s1 n n' i a1 m) k
    moves_layer (F.Latest f xs) t w s b b' n n' i a mb m k =
        moves_each _ _ xs t [] w s b b' _ _ i a mb (λ vs s1 a1. moves_looks s1.left s1 _ _ a1 (λ v s2 i2 a2. moves_called f vs v s2 n n' i2 a2 m)) k
    moves_layer (F.Make ty xs) t w s b b' n n' i a mb m k = moves_each _ _ xs t [] w s b b' _ _ i a mb (λ vs s1 a1. moves_operation _ s1 n n' a1 m) k
    moves_layer (F.Infer name xs) t w s b b' n n' i a mb m k = moves_each _ _ xs t [] w s b b' _ _ i a mb (λ vs s1 a1. moves_operation _ s1 n n' a1 m) k
    moves_layer (F.Parts xs) t w s b b' n n' i a mb m k = moves_each _ _ xs t [] w s b b' _ _ i a mb (λ vs s1 a1. moves_operation _ s1 n n' a1 m) k
    moves_layer (F.Field x name) t w s b b' n n' i a mb m k = t w s b b' _ _ i a mb (λ v s1 a1. moves_answers _ s1 n n' a1 m) k
    moves_layer (F.Part x number) t w s b b' n n' i a mb m k = t w s b b' _ _ i a mb (λ v s1 a1. moves_answers _ s1 n n' a1 m) k
    moves_layer (F.Egal x y negated) t w s b b' n n' i a mb m k =
        t.0 w s b b' _ _ i a mb (λ u s1 a1. t.1 w s1 b b' _ _ i a1 mb (λ v s2 a2. moves_operation _ s2 n n' a2 m)) k
    moves_layer (F.Isa x ty) t w s b b' n n' i a mb m k = t w s b b' _ _ i a mb (λ v s1 a1. moves_operation _ s1 n n' a1 m) k
    moves_layer (F.Sub ty ty') t w s b b' n n' i a mb m k = moves_operation _ s n n' a m k
    moves_layer (F.If x y z) t w s b b' n n' i a mb m k =
        t.0 w s b b' _ _ i a mb (λ v s1 a1. moves_decides v s1 _ _ (t.1 w s1 b b' n n' i a1 mb m) (t.2 w s1 b b' n n' i a1 mb m)) k
    moves_layer (F.And x y) t w s b b' n n' i a mb m k =
        t.0 w s b b' _ _ i a mb (λ v s1 a1. moves_decides v s1 _ _ (t.1 w s1 b b' n n' i a1 mb m) (m _ _ a1)) k
    moves_layer (F.Or x y) t w s b b' n n' i a mb m k =
        t.0 w s b b' _ _ i a mb (λ v s1 a1. moves_decides v s1 _ _ (m _ _ a1) (t.1 w s1 b b' n n' i a1 mb m)) k
    moves_layer (F.Block xs) t w s b b' n n' i a mb m k = moves_stmts _ _ xs t V.Nothing w s b b' _ _ i a mb (λ v s1 a1. m v _ a1) k
    moves_layer (F.Eval xs) t w s b b' n n' i a mb m k =
        moves_items _ _ xs (bare_items (runs_item g Q called) (runs_item h Q called') xs t) V.Nothing s b b' _ _ a mb (λ v s1 a1. m v _ a1) k
    moves_layer (F.Spawn place) t w s b b' n n' i a mb m k = moves_spawns s.left _ s n n' a m k
    moves_layer (F.Delete place) t w s b b' n n' i a mb m k = moves_deletes s.left place s _ _ a (λ s1 a1. m _ _ a1) k
    moves_layer (F.Fetch x) t w s b b' n n' i a mb m k = t w s b b' _ _ i a mb (λ v s1 a1. moves_value v s1 n n' a1 m) k
    moves_layer (F.Print xs line) t w s b b' n n' i a mb m k = moves_texts _ _ xs t [] w s b b' _ _ i a mb (λ u s1 a1. m _ _ a1) k

    moves_stmt : (x : Stmt-F Expr Item Piece Stmt) → BelowT PE PI PQ PT x → Moves (layerT g called x) (layerT h called' x)
    moves_stmt (F.Stmt::Bind slot x) t w s b b' n n' i a mb m k = t w s b b' _ _ i a mb (λ v s1 a1. m v _ a1) k
    moves_stmt (F.Stmt::Do x) t w s b b' n n' i a mb m k = t w s b b' n n' i a mb m k
    moves_stmt (F.Return x) t w s b b' n n' i a mb m k = t w s b b' b b' i a mb mb k

    moves_item : (x : Item-F Expr Item Piece Stmt) → BelowI PE PI PQ PT x → MovesI (layerI g called x) (layerI h called' x)
    moves_item (F.Define site) t s b b' n n' a mb m k = moves_looks s.left s _ _ a (λ w s1 i1 a1. moves_defines s1.left site s1 _ _ a1 (λ s2 a2. m _ _ a2)) k
    moves_item (F.Item::Bind slot x) t s b b' n n' a mb m k = moves_looks s.left s _ _ a (λ w s1 i1 a1. t w s1 b b' _ _ i1 a1 mb (λ v s2 a2. m v _ a2)) k
    moves_item (F.Item::Do x) t s b b' n n' a mb m k = moves_looks s.left s _ _ a (λ w s1 i1 a1. t w s1 b b' n n' i1 a1 mb m) k

    moves_piece : (x : Piece-F Expr Item Piece Stmt) → BelowQ PE PI PQ PT x → MovesQ (layerQ g called x) (layerQ h called' x)
    moves_piece (F.Text bytes) t w s b b' n n' i a mb m k = m _ _ a k
    moves_piece (F.Show x) t w s b b' n n' i a mb m k = t w s b b' _ _ i a mb (λ v s1 a1. m _ _ a1) k

    both : (r r' q q' : Runs) → r ≡ q → r' ≡ q' → Moves q q' → Moves r r'
    both r r' q q' e e' t = subst (λ (z : Runs). Moves z r') (sym e) (subst (λ (z : Runs). Moves q z) (sym e') t)

    bothI : (r r' q q' : ItemRuns) → r ≡ q → r' ≡ q' → MovesI q q' → MovesI r r'
    bothI r r' q q' e e' t = subst (λ (z : ItemRuns). MovesI z r') (sym e) (subst (λ (z : ItemRuns). MovesI q z) (sym e') t)

    bothQ : (r r' q q' : PieceRuns) → r ≡ q → r' ≡ q' → MovesQ q q' → MovesQ r r'
    bothQ r r' q q' e e' t = subst (λ (z : PieceRuns). MovesQ z r') (sym e) (subst (λ (z : PieceRuns). MovesQ q z) (sym e') t)

    stepE : (e : Expr) → Below PE PI PQ PT (out-Expr e) → PE e
    stepE e t = both _ _ _ _ (runs_is g Q called e) (runs_is h Q called' e) (moves_layer (out-Expr e) t)

    stepI : (x : Item) → BelowI PE PI PQ PT (out-Item x) → PI x
    stepI x t = bothI _ _ _ _ (item_is g Q called x) (item_is h Q called' x) (moves_item (out-Item x) t)

    stepQ : (x : Piece) → BelowQ PE PI PQ PT (out-Piece x) → PQ x
    stepQ x t = bothQ _ _ _ _ (piece_is g Q called x) (piece_is h Q called' x) (moves_piece (out-Piece x) t)

    stepT : (x : Stmt) → BelowT PE PI PQ PT (out-Stmt x) → PT x
    stepT x t = both _ _ _ _ (stmt_is g Q called x) (stmt_is h Q called' x) (moves_stmt (out-Stmt x) t)

    moves : (e : Expr) → PE e
    moves = all PE PI PQ PT stepE stepI stepQ stepT

    each_item : (xs : List Item) → Each PI xs
    each_item [] = tt
    each_item (x ∷ xs) = (allI PE PI PQ PT stepE stepI stepQ stepT x, each_item xs)

  moves_counted : (y : Bool) (go go' spent : Type 0) → (go → go') → either y go spent → either y go' spent
  moves_counted true go go' spent m k = m k
  moves_counted false go go' spent m k = k

  moves_chosen : (c : Choice) (f : ℕ) (ts : List Ty) (w : ℕ) (s : State) (n n' : ℕ → Type 0) → In w → Selects P es f ts w c → ((site : ℕ) → n site → n' site)
      → chosen g Q c f ts w s n → chosen h Q c f ts w s n'
  moves_chosen (C.Method d) f ts w s n n' i sel m k = m (site_of es' d) (subst n (alike.site f ts w d i sel) k)
  moves_chosen C.None f ts w s n n' i sel m k = k
  moves_chosen (C.Ambiguous a b) f ts w s n n' i sel m k = k

  moves_performs : (body : Body) (vs : List Value) (s : State) (n n' : Then) (go go' : List Ty → Expr → Type 0) → Fine s → Leads n n' → ((types : List Ty) (e : Expr) → go types e → go' types e)
      → performs g Q body vs s n go → performs h Q body vs s n' go'
  moves_performs (operation o) vs s n n' go go' a m mg k = moves_answers _ s n n' a m k
  moves_performs (code sig e) vs s n n' go go' a m mg k = mg _ e k

  moves_calls : (room f : ℕ) (vs : List Value) (w : ℕ) (s : State) (n n' : Then) → In w → Fine s → Leads n n' → calls g Q room f vs w s n → calls h Q room f vs w s n'
  moves_calls zero f vs w s n n' i a m k = k
  moves_calls (suc room) f vs w s n n' i a m k =
      moves_counted (nat_lt s.calls fuel) _ _ _ (λ x. (
        x.0,
        alike.selects f (map type_of vs) w x.0 i x.1,
        alike.keeps f (map type_of vs) w i x.2,
        moves_chosen x.0 f (map type_of vs) w _ _ _ i x.1 (λ site. moves_performs (body_of P site) vs _ n n' _ _ a m
            (λ types e. moves (calls g Q room) (calls h Q room) (moves_calls room) e w _ _ _ _ _ i a (λ v s1 a1. m v _ a1) (λ v s1 a1. m v _ a1))) x.3,
      )) k

  moves_task : (o : Option Expr) (start : Start) (trace : List TraceItem) → In start.world → LooksIn In trace → task_runs g Q o start trace → task_runs h Q o start trace
  moves_task None start trace i a k = k
  moves_task (Some e) start trace i a k =
      moves (calls g Q open_calls) (calls h Q open_calls) (moves_calls open_calls) e start.world (task_state start trace) _ _ _ _ i a (λ v s a1 r. r) (λ v s a1 r. r) k

  moves_root : (trace : List TraceItem) → LooksIn In trace
      → items_run (runs_item g Q (calls g Q open_calls)) P.top V.Nothing (first_state trace) (λ v s. Q (O.Value v) s) (λ v s. Q (O.Value v) s)
      → items_run (runs_item h Q (calls h Q open_calls)) P.top V.Nothing (first_state trace) (λ v s. Q (O.Value v) s) (λ v s. Q (O.Value v) s)
  moves_root trace a k =
      moves_items _ _ P.top (each_item (calls g Q open_calls) (calls h Q open_calls) (moves_calls open_calls) P.top) V.Nothing (first_state trace) _ _ _ _ a (λ v s a1 r. r) (λ v s a1 r. r) k

-- a run is one over the other setting
pub run_moves : (P : Program) (fuel : ℕ) (until : Option Question) (In : ℕ → Type 0) (es es' : List Event) (places places' : Option Places) → AnswersAlike P In es es' places places'
    → (start : Option Start) (trace : List TraceItem) (o : Outcome) (out : List ℕ) (made : ℕ) (spawned : List Start) → StartsIn In start → LooksIn In trace
    → Run (record { program = P; events = es; places = places; fuel = fuel; until = until }) start trace o out made spawned
    → Run (record { program = P; events = es'; places = places'; fuel = fuel; until = until }) start trace o out made spawned
run_moves P fuel until In es es' places places' alike None trace o out made spawned i a r =
    record { ran = moves_root P fuel until In es es' places places' alike (IsEnd o out made spawned) trace a r.ran }
run_moves P fuel until In es es' places places' alike (Some start) trace o out made spawned i a r =
    record { ran = moves_task P fuel until In es es' places places' alike (IsEnd o out made spawned) (slice_get P.spawns start.spawn) start trace i a r.ran }

-- every trace looked at worlds
looks_anywhere : (is : List TraceItem) → LooksIn (λ w. Unit {0}) is
looks_anywhere [] = tt
looks_anywhere (Look w p ∷ is) = (tt, looks_anywhere is)
looks_anywhere (Def site p ∷ is) = looks_anywhere is
looks_anywhere (Spawn child p ∷ is) = looks_anywhere is
looks_anywhere (Fetch task o p ∷ is) = looks_anywhere is
looks_anywhere (WorldFull p ∷ is) = looks_anywhere is
looks_anywhere (TaskFull p ∷ is) = looks_anywhere is
looks_anywhere (Del at_place p ∷ is) = looks_anywhere is
looks_anywhere (Absent at_place p ∷ is) = looks_anywhere is

starts_anywhere : (start : Option Start) → StartsIn (λ w. Unit {0}) start
starts_anywhere None = tt
starts_anywhere (Some start) = tt

-- a run with places is one without
pub without_places : (P : Program) (es : List Event) (places : Option Places) (fuel : ℕ) (start : Option Start) (trace : List TraceItem) (o : Outcome) (out : List ℕ) (made : ℕ) (spawned : List Start)
    → Run (record { program = P; events = es; places = places; fuel = fuel; until = None }) start trace o out made spawned
    → Run (record { program = P; events = es; places = None; fuel = fuel; until = None }) start trace o out made spawned
without_places P es places fuel start trace o out made spawned =
    run_moves P fuel None (λ w. Unit {0}) es es places None (record { selects = λ f ts w c i h. h; keeps = λ f ts w i h. tt; site = λ f ts w d i h. refl })
    start trace o out made spawned (starts_anywhere start) (looks_anywhere trace)
