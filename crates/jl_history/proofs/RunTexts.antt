-- What a run of a valid program tells may stand in a text: no more calls than there is fuel, an output in UTF-8, and an outcome of
-- which each name is of one line.
use Rattle.std.proofs.Common.{◌≡◌, ◌∙◌, sym, ap, subst, refl, ℕ, zero, suc, ◌+◌, ◌<◌, ◌≤◌, arith, Bool, true, false, ◌&&◌, cond, nat_eq, nat_le, nat_lt, List, [], ◌∷◌, ◌++◌, map, length, codes, Option, Some, None, slice_get}
use Rattle.std.specs.List.{list_all}
use Rattle.std.specs.Str.{IsUtf8}
use Rattle.std.proofs.lemmas.Option.{slice_get_within}
use Rattle.std.proofs.lemmas.Str.{IsUtf8-append, IsUtf8-nil, IsUtf8-from_ascii, IsUtf8-from_is_utf8}
use Rattle.std.proofs.lemmas.Str.Ascii.{IsAscii-cons, IsAscii-nil}
use Rattle.jl_model.specs.declared.limits.TheConstants.{MOST_ARGUMENTS}
use Rattle.jl_model.specs.declared.ty.Ty.{Ty}
use Rattle.jl_program.specs.declared.choice.Choice.{Choice}
use Rattle.jl_program.specs.declared.choice.Choice.TheVariants as C
use Rattle.jl_program.specs.declared.fault.Fault.TheVariants as X
use Rattle.jl_program.specs.declared.tree.Expr.{Expr, out-Expr, roll-out-Expr}
use Rattle.jl_program.specs.declared.tree.Stmt.{Stmt, out-Stmt, roll-out-Stmt}
use Rattle.jl_program.specs.declared.tree.Item.{Item, out-Item, roll-out-Item}
use Rattle.jl_program.specs.declared.tree.Piece.{Piece, out-Piece, roll-out-Piece}
use Rattle.jl_program.specs.declared.tree.Expr.TheOpen.{Expr-F, Stmt-F, Item-F, Piece-F}
use Rattle.jl_program.specs.declared.tree.Expr.TheOpen as F
use Rattle.jl_program.specs.declared.tree.Expr.TheFolds.{map-Expr, map-Item, map-Piece, map-Stmt, fold-roll-Expr, fold-roll-Item, fold-roll-Piece, fold-roll-Stmt}
use Rattle.jl_program.specs.declared.tree.Program.{Program}
use Rattle.jl_program.specs.declared.tree.Site.{Site}
use Rattle.jl_program.specs.declared.tree.Start.{Start}
use Rattle.jl_program.specs.declared.value.Value.{Value}
use Rattle.jl_program.specs.declared.value.Value.TheVariants as V
use Rattle.jl_program.specs.BodyTypes.{is_seen, is_made, is_inferable}
use Rattle.jl_program.specs.Names.{is_identifier}
use Rattle.jl_program.specs.Prelude.{prelude_count}
use Rattle.jl_program.specs.Scope.{Scope, Statement, at_top, in_body, in_task, evaluated, bound, all_in, in_turn, all_types, expr_step, stmt_step, item_step, piece_step, is_valid_expr, item_of, is_valid_piece}
use Rattle.jl_program.specs.TypeOf.{type_of}
use Rattle.jl_program.specs.Valid.{IsValid}
use Rattle.jl_program.proofs.ValidLayers.{stmt_of, valid-nothing}
use Rattle.jl_calculus.specs.declared.history.Event.{Event}
use Rattle.jl_calculus.specs.declared.history.Outcome.{Outcome}
use Rattle.jl_calculus.specs.declared.history.Outcome.TheVariants as O
use Rattle.jl_calculus.specs.declared.history.TraceItem.{TraceItem}
use Rattle.jl_calculus.specs.declared.history.TraceItem.TheVariants.{Look, Def, Del, Spawn, Fetch, WorldFull, TaskFull, Absent}
use Rattle.jl_calculus.specs.Answers.{Answer}
use Rattle.jl_calculus.specs.Kept.{Places}
use Rattle.jl_calculus.specs.Run.{Setting, State, Then, Runs, ItemRuns, PieceRuns, Caller, Body, operation, code, code_of, body_of, each_runs, texts_run, stmts_run, items_run, either, newline, with_scope, looks, defines, deletes, spawns, fetched, fetches, fetches_value, decides, answers, operation_runs, expr_runs, stmt_runs, item_runs, piece_runs, runs, runs_stmt, runs_item, runs_piece, chosen, performs, calls, open_calls, first_state, task_state, task_runs, setting_of, IsEnd, Run}
use Rattle.jl_calculus.specs.Views.{view_at}
use Rattle.jl_calculus.specs.World.{site_of}
use Rattle.jl_calculus.proofs.Layers.{runs_is, stmt_is, item_is, piece_is}
use Rattle.jl_calculus.proofs.Induction.{Each, Below, BelowT, BelowI, BelowQ, all, allI}
use Rattle.jl_task.proofs.ProgramLemmas.{valid_site, spawned_good}
use Rattle.jl_history.proofs.LineTexts.{both}
use Rattle.jl_history.proofs.NameTexts.{identifier_line}
use Rattle.jl_history.proofs.ValueTexts.{IsTold, value_line}
use Rattle.jl_history.proofs.AnswerNames.{Tells, tuple_tells, field_tells, part_of_tells, test_tells, order_tells, same_tells, inferred_tells, written_tells, operates_told}

-- what holds of the calls made and of the output at each place of a run
pub record IsKept (fuel calls : ℕ) (out : List ℕ) : Type 0 where
  pub few : calls ≤ fuel
  pub utf8 : IsUtf8 out

newline_utf8 : (line : Bool) → IsUtf8 (newline line)
newline_utf8 true = IsUtf8-from_ascii (codes "\n") (IsAscii-cons 10 [] (omega arith) IsAscii-nil)
newline_utf8 false = IsUtf8-nil

module _ (P : Program) (v : IsValid P) (es : List Event) (places : Option Places) (fuel : ℕ) (Q : Outcome → State → Type 0) (R : Type 0)
    (ends : (o : Outcome) (s : State) → Q o s → IsKept fuel s.calls s.out → IsTold o → R) where
  abbrev g : Setting
  g = record { program = P; events = es; places = places; fuel = fuel; until = None }

  abbrev Kept : State → Type 0
  Kept s = IsKept fuel s.calls s.out

  abbrev Goes : Then → Type 0
  Goes n = (x : Value) (s : State) → n x s → Kept s → R

  abbrev Says : Runs → Type 1
  Says r = (w : ℕ) (s : State) (b n : Then) → Goes b → Goes n → r w s b n → Kept s → R

  abbrev SaysI : ItemRuns → Type 1
  SaysI r = (s : State) (b n : Then) → Goes b → Goes n → r s b n → Kept s → R

  abbrev SaysQ : PieceRuns → Type 1
  SaysQ r = (w : ℕ) (s : State) (b : Then) (n : List ℕ → State → Type 0) → Goes b → ((t : List ℕ) (s1 : State) → n t s1 → IsUtf8 t → Kept s1 → R) → r w s b n → Kept s → R

  of_looks : (left : List TraceItem) (s : State) (n : ℕ → State → Type 0) → ((w : ℕ) (s1 : State) → n w s1 → Kept s1 → R) → looks g Q left s n → Kept s → R
  of_looks [] s n m k a = absurd k
  of_looks (Look w p ∷ rest) s n m k a = m w _ k a
  of_looks (Def made p ∷ rest) s n m k a = absurd k
  of_looks (Spawn child p ∷ rest) s n m k a = absurd k
  of_looks (Fetch task o p ∷ rest) s n m k a = absurd k
  of_looks (WorldFull p ∷ rest) s n m k a = absurd k
  of_looks (TaskFull p ∷ rest) s n m k a = absurd k
  of_looks (Del place p ∷ rest) s n m k a = absurd k
  of_looks (Absent place p ∷ rest) s n m k a = absurd k

  of_defines : (left : List TraceItem) (site : ℕ) (s : State) (n : State → Type 0) → ((s1 : State) → n s1 → Kept s1 → R) → defines g Q left site s n → Kept s → R
  of_defines [] site s n m k a = absurd k
  of_defines (Def made p ∷ rest) site s n m k a = m _ k.1 a
  of_defines (WorldFull p ∷ rest) site s n m k a = ends _ _ k a tt
  of_defines (Look w p ∷ rest) site s n m k a = absurd k
  of_defines (Spawn child p ∷ rest) site s n m k a = absurd k
  of_defines (Fetch task o p ∷ rest) site s n m k a = absurd k
  of_defines (TaskFull p ∷ rest) site s n m k a = absurd k
  of_defines (Del place p ∷ rest) site s n m k a = absurd k
  of_defines (Absent place p ∷ rest) site s n m k a = absurd k

  of_deletes : (left : List TraceItem) (place : ℕ) (s : State) (n : State → Type 0) → ((s1 : State) → n s1 → Kept s1 → R) → deletes g Q left place s n → Kept s → R
  of_deletes [] place s n m k a = absurd k
  of_deletes (Del made p ∷ rest) place s n m k a = m _ k.1 a
  of_deletes (Absent made p ∷ rest) place s n m k a = ends _ _ k.1 a tt
  of_deletes (WorldFull p ∷ rest) place s n m k a = ends _ _ k a tt
  of_deletes (Look w p ∷ rest) place s n m k a = absurd k
  of_deletes (Def made p ∷ rest) place s n m k a = absurd k
  of_deletes (Spawn child p ∷ rest) place s n m k a = absurd k
  of_deletes (Fetch task o p ∷ rest) place s n m k a = absurd k
  of_deletes (TaskFull p ∷ rest) place s n m k a = absurd k

  of_spawns : (left : List TraceItem) (start : Start) (s : State) (n : Then) → Goes n → spawns g Q left start s n → Kept s → R
  of_spawns [] start s n m k a = absurd k
  of_spawns (Spawn child p ∷ rest) start s n m k a = m _ _ k a
  of_spawns (TaskFull p ∷ rest) start s n m k a = ends _ _ k a tt
  of_spawns (Look w p ∷ rest) start s n m k a = absurd k
  of_spawns (Def made p ∷ rest) start s n m k a = absurd k
  of_spawns (Fetch task o p ∷ rest) start s n m k a = absurd k
  of_spawns (WorldFull p ∷ rest) start s n m k a = absurd k
  of_spawns (Del place p ∷ rest) start s n m k a = absurd k
  of_spawns (Absent place p ∷ rest) start s n m k a = absurd k

  of_fetched : (task : ℕ) (o : Outcome) (s : State) (n : Then) → Goes n → fetched g Q task o s n → Kept s → R
  of_fetched task (O.Value x) s n m k a = m x s k a
  of_fetched task (O.Error e) s n m k a = ends _ _ k a tt

  of_fetches : (left : List TraceItem) (of : ℕ) (s : State) (n : Then) → Goes n → fetches g Q left of s n → Kept s → R
  of_fetches [] of s n m k a = absurd k
  of_fetches (Fetch task o p ∷ rest) of s n m k a = of_fetched task o _ n m k.1 a
  of_fetches (Look w p ∷ rest) of s n m k a = absurd k
  of_fetches (Def made p ∷ rest) of s n m k a = absurd k
  of_fetches (Spawn child p ∷ rest) of s n m k a = absurd k
  of_fetches (WorldFull p ∷ rest) of s n m k a = absurd k
  of_fetches (TaskFull p ∷ rest) of s n m k a = absurd k
  of_fetches (Del place p ∷ rest) of s n m k a = absurd k
  of_fetches (Absent place p ∷ rest) of s n m k a = absurd k

  of_value : (x : Value) (s : State) (n : Then) → Goes n → fetches_value g Q x s n → Kept s → R
  of_value (V.Task task) s n m k a = of_fetches s.left task s n m k a
  of_value (V.Int i) s n m k a = ends _ _ k a tt
  of_value (V.Bool b) s n m k a = ends _ _ k a tt
  of_value V.Nothing s n m k a = ends _ _ k a tt
  of_value (V.Tuple c) s n m k a = ends _ _ k a tt
  of_value (V.Struct c) s n m k a = ends _ _ k a tt

  of_decides : (x : Value) (s : State) (n : Bool → Type 0) → (n true → R) → (n false → R) → decides g Q x s n → Kept s → R
  of_decides (V.Bool true) s n on_true on_false k a = on_true k
  of_decides (V.Bool false) s n on_true on_false k a = on_false k
  of_decides (V.Int i) s n on_true on_false k a = ends _ _ k a tt
  of_decides V.Nothing s n on_true on_false k a = ends _ _ k a tt
  of_decides (V.Task t) s n on_true on_false k a = ends _ _ k a tt
  of_decides (V.Tuple c) s n on_true on_false k a = ends _ _ k a tt
  of_decides (V.Struct c) s n on_true on_false k a = ends _ _ k a tt

  of_answers : (o : Outcome) (s : State) (n : Then) → IsTold o → Goes n → answers g Q o s n → Kept s → R
  of_answers (O.Value x) s n t m k a = m x s k a
  of_answers (O.Error e) s n t m k a = ends _ _ k a t

  of_operation : (A : Answer) (s : State) (n : Then) → Tells A → Goes n → operation_runs g Q A s n → Kept s → R
  of_operation A s n t m (o, is, k) a = of_answers o s n (t o is) m k a

  of_each : {X : Type 0} (r : X → Runs) (xs : List X) → Each (λ x. Says (r x)) xs → (done : List Value) (w : ℕ) (s : State) (b : Then) (n : List Value → State → Type 0)
      → Goes b → ((vs : List Value) (s1 : State) → n vs s1 → Kept s1 → R) → each_runs r xs done w s b n → Kept s → R
  of_each r [] t done w s b n mb m k a = m done s k a
  of_each r (x ∷ xs) t done w s b n mb m k a = t.0 w s b _ mb (λ y s1. of_each r xs t.1 (done ++ y ∷ []) w s1 b n mb m) k a

  of_texts : {X : Type 0} (r : X → PieceRuns) (xs : List X) → Each (λ x. SaysQ (r x)) xs → (text : List ℕ) → IsUtf8 text → SaysQ (texts_run r xs text)
  of_texts r [] t text u w s b n mb m k a = m text s k u a
  of_texts r (x ∷ xs) t text u w s b n mb m k a = t.0 w s b _ mb (λ y s1 k1 u1 a1. of_texts r xs t.1 (text ++ y) (IsUtf8-append text y u u1) w s1 b n mb m k1 a1) k a

  of_stmts : {X : Type 0} (r : X → Runs) (xs : List X) → Each (λ x. Says (r x)) xs → (last : Value) → Says (stmts_run r xs last)
  of_stmts r [] t last w s b n mb m k a = m last s k a
  of_stmts r (x ∷ xs) t last w s b n mb m k a = t.0 w s b _ mb (λ y s1. of_stmts r xs t.1 y w s1 b n mb m) k a

  of_items : {X : Type 0} (r : X → ItemRuns) (xs : List X) → Each (λ x. SaysI (r x)) xs → (last : Value) → SaysI (items_run r xs last)
  of_items r [] t last s b n mb m k a = m last s k a
  of_items r (x ∷ xs) t last s b n mb m k a = t.0 s b _ mb (λ y s1. of_items r xs t.1 y s1 b n mb m) k a

  -- statements that see no names
  of_bare : {X : Type 0} (r : X → ItemRuns) (xs : List X) → Each (λ x. SaysI (r x)) xs → Each (λ x. SaysI (λ s. r x (with_scope s [] []))) xs
  of_bare r [] t = tt
  of_bare r (x ∷ xs) t = ((λ s b n mb m k a. t.0 (with_scope s [] []) b n mb m k a), of_bare r xs t.1)

  -- ---- the parts of the tree, which are valid

  abbrev Test : Type 0
  Test = Scope → Bool

  abbrev valid : Expr → Test
  valid = is_valid_expr P v.views

  abbrev item_test : Item → Statement
  item_test = item_of P v.views

  abbrev piece_test : Piece → Test
  piece_test = is_valid_piece P v.views

  abbrev stmt_test : Stmt → Statement
  stmt_test = stmt_of P v.views

  abbrev tested : Expr-F Expr Item Piece Stmt → Expr-F Test Statement Test Statement
  tested = map-Expr Expr Item Piece Stmt Test Statement Test Statement valid item_test piece_test stmt_test

  abbrev tested_stmt : Stmt-F Expr Item Piece Stmt → Stmt-F Test Statement Test Statement
  tested_stmt = map-Stmt Expr Item Piece Stmt Test Statement Test Statement valid item_test piece_test stmt_test

  abbrev tested_item : Item-F Expr Item Piece Stmt → Item-F Test Statement Test Statement
  tested_item = map-Item Expr Item Piece Stmt Test Statement Test Statement valid item_test piece_test stmt_test

  abbrev tested_piece : Piece-F Expr Item Piece Stmt → Piece-F Test Statement Test Statement
  tested_piece = map-Piece Expr Item Piece Stmt Test Statement Test Statement valid item_test piece_test stmt_test

  valid_is : (e : Expr) → valid e ≡ expr_step P v.views (tested (out-Expr e))
  valid_is e = ap valid (sym (roll-out-Expr e)) ∙ fold-roll-Expr Test Statement Test Statement (expr_step P v.views) (item_step P v.views) (piece_step P v.views) (stmt_step P v.views) (out-Expr e)

  stmt_valid_is : (x : Stmt) → stmt_test x ≡ stmt_step P v.views (tested_stmt (out-Stmt x))
  stmt_valid_is x = ap stmt_test (sym (roll-out-Stmt x)) ∙ fold-roll-Stmt Test Statement Test Statement (expr_step P v.views) (item_step P v.views) (piece_step P v.views) (stmt_step P v.views) (out-Stmt x)

  item_valid_is : (x : Item) → item_test x ≡ item_step P v.views (tested_item (out-Item x))
  item_valid_is x = ap item_test (sym (roll-out-Item x)) ∙ fold-roll-Item Test Statement Test Statement (expr_step P v.views) (item_step P v.views) (piece_step P v.views) (stmt_step P v.views) (out-Item x)

  piece_valid_is : (x : Piece) → piece_test x ≡ piece_step P v.views (tested_piece (out-Piece x))
  piece_valid_is x = ap piece_test (sym (roll-out-Piece x)) ∙ fold-roll-Piece Test Statement Test Statement (expr_step P v.views) (item_step P v.views) (piece_step P v.views) (stmt_step P v.views) (out-Piece x)

  module _ (called : Caller) (of_called : (f : ℕ) (vs : List Value) (w : ℕ) (s : State) (n : Then) → Goes n → called f vs w s n → Kept s → R) where
    abbrev PE : Expr → Type 1
    PE e = (c : Scope) → valid e c ≡ true → Says (runs g Q called e)

    abbrev PT : Stmt → Type 1
    PT x = (c : Scope) → (stmt_test x).valid c ≡ true → Says (runs_stmt g Q called x)

    abbrev PI : Item → Type 1
    PI x = (c : Scope) → (item_test x).valid c ≡ true → SaysI (runs_item g Q called x)

    abbrev PQ : Piece → Type 1
    PQ x = (c : Scope) → piece_test x c ≡ true → SaysQ (runs_piece g Q called x)

    abbrev layer : Expr-F Expr Item Piece Stmt → Runs
    layer = expr_runs g Q called (runs g Q called) (runs_item g Q called) (runs_piece g Q called) (runs_stmt g Q called)

    abbrev layerT : Stmt-F Expr Item Piece Stmt → Runs
    layerT = stmt_runs g Q called (runs g Q called) (runs_item g Q called) (runs_piece g Q called) (runs_stmt g Q called)

    abbrev layerI : Item-F Expr Item Piece Stmt → ItemRuns
    layerI = item_runs g Q called (runs g Q called) (runs_item g Q called) (runs_piece g Q called) (runs_stmt g Q called)

    abbrev layerQ : Piece-F Expr Item Piece Stmt → PieceRuns
    layerQ = piece_runs g Q called (runs g Q called) (runs_item g Q called) (runs_piece g Q called) (runs_stmt g Q called)

    exprs : (xs : List Expr) → Each PE xs → (c : Scope) → all_in (map valid xs) c ≡ true → Each (λ x. Says (runs g Q called x)) xs
    exprs [] t c h = tt
    exprs (x ∷ xs) t c h = let p = both (valid x c) (all_in (map valid xs) c) h in (t.0 c p.0, exprs xs t.1 c p.1)

    pieces : (xs : List Piece) → Each PQ xs → (c : Scope) → all_in (map piece_test xs) c ≡ true → Each (λ x. SaysQ (runs_piece g Q called x)) xs
    pieces [] t c h = tt
    pieces (x ∷ xs) t c h = let p = both (piece_test x c) (all_in (map piece_test xs) c) h in (t.0 c p.0, pieces xs t.1 c p.1)

    stmts : (xs : List Stmt) → Each PT xs → (c : Scope) → in_turn (map stmt_test xs) c ≡ true → Each (λ x. Says (runs_stmt g Q called x)) xs
    stmts [] t c h = tt
    stmts (x ∷ xs) t c h =
        let p = both ((stmt_test x).valid c) (in_turn (map stmt_test xs) (cond (stmt_test x).binds (bound c) c)) h in
        (t.0 c p.0, stmts xs t.1 (cond (stmt_test x).binds (bound c) c) p.1)

    turns : (xs : List Item) → Each PI xs → (c : Scope) → in_turn (map item_test xs) c ≡ true → Each (λ x. SaysI (runs_item g Q called x)) xs
    turns [] t c h = tt
    turns (x ∷ xs) t c h =
        let p = both ((item_test x).valid c) (in_turn (map item_test xs) (cond (item_test x).binds (bound c) c)) h in
        (t.0 c p.0, turns xs t.1 (cond (item_test x).binds (bound c) c) p.1)

    items : (xs : List Item) → Each PI xs → (c : Scope) → list_all (λ (x : Statement). x.valid c) (map item_test xs) ≡ true → Each (λ x. SaysI (runs_item g Q called x)) xs
    items [] t c h = tt
    items (x ∷ xs) t c h = let p = both ((item_test x).valid c) (list_all (λ (y : Statement). y.valid c) (map item_test xs)) h in (t.0 c p.0, items xs t.1 c p.1)

    of_call : (f : ℕ) (xs : List Expr) (c : Scope) → (nat_lt f (length P.functions) && (nat_le (length (map valid xs)) MOST_ARGUMENTS && all_in (map valid xs) c)) ≡ true → all_in (map valid xs) c ≡ true
    of_call f xs c h =
        (both (nat_le (length (map valid xs)) MOST_ARGUMENTS) (all_in (map valid xs) c) (both (nat_lt f (length P.functions)) (nat_le (length (map valid xs)) MOST_ARGUMENTS && all_in (map valid xs) c) h).1).1

    of_layer : (x : Expr-F Expr Item Piece Stmt) → Below PE PI PQ PT x → (c : Scope) → expr_step P v.views (tested x) c ≡ true → Says (layer x)
    of_layer (F.Int i) t c h w s b n mb m k a = m _ _ k a
    of_layer (F.Bool i) t c h w s b n mb m k a = m _ _ k a
    of_layer F.Nothing t c h w s b n mb m k a = m _ _ k a
    of_layer (F.Local x) t c h w s b n mb m k a = m _ _ k a
    of_layer (F.Call f xs) t c h w s b n mb m k a = of_each _ xs (exprs xs t c (of_call f xs c h)) [] w s b _ mb (λ vs s1. of_called f vs w s1 n m) k a
    of_layer (F.Latest f xs) t c h w s b n mb m k a =
        of_each _ xs (exprs xs t c (of_call f xs c h)) [] w s b _ mb (λ vs s1. of_looks s1.left s1 _ (λ u s2. of_called f vs u s2 n m)) k a
    of_layer (F.Make ty xs) t c h w s b n mb m k a =
        let p = both (is_seen (all_types P) c.view.statics ty) (is_made (all_types P) ty && all_in (map valid xs) c) h in
        let q = both (is_made (all_types P) ty) (all_in (map valid xs) c) p.1 in
        of_each _ xs (exprs xs t c q.1) [] w s b _ mb (λ vs s1. of_operation _ s1 n (written_tells P v s1.bindings ty vs) m) k a
    of_layer (F.Infer name xs) t c h w s b n mb m k a =
        let p = both (is_inferable (all_types P) name) (all_in (map valid xs) c) h in
        of_each _ xs (exprs xs t c p.1) [] w s b _ mb (λ vs s1. of_operation _ s1 n (inferred_tells (all_types P) name vs) m) k a
    of_layer (F.Parts xs) t c h w s b n mb m k a = of_each _ xs (exprs xs t c h) [] w s b _ mb (λ vs s1. of_operation _ s1 n (tuple_tells (all_types P) vs) m) k a
    of_layer (F.Field x name) t c h w s b n mb m k a =
        let p = both (valid x c) (is_identifier name) h in
        t c p.0 w s b _ mb (λ y s1. of_answers _ s1 n (field_tells (all_types P) name y (identifier_line name p.1)) m) k a
    of_layer (F.Part x number) t c h w s b n mb m k a =
        let p = both (valid x c) (nat_le 1 number) h in
        t c p.0 w s b _ mb (λ y s1. of_answers _ s1 n (part_of_tells (all_types P) number y) m) k a
    of_layer (F.Egal x y negated) t c h w s b n mb m k a =
        let p = both (valid x c) (valid y c) h in
        t.0 c p.0 w s b _ mb (λ u s1. t.1 c p.1 w s1 b _ mb (λ z s2. of_operation _ s2 n (same_tells negated u z) m)) k a
    of_layer (F.Isa x ty) t c h w s b n mb m k a =
        let p = both (valid x c) (is_seen (all_types P) c.view.statics ty) h in
        t c p.0 w s b _ mb (λ y s1. of_operation _ s1 n (test_tells (all_types P) s1.bindings y ty) m) k a
    of_layer (F.Sub ty u) t c h w s b n mb m k a = of_operation _ s n (order_tells (all_types P) s.bindings ty u) m k a
    of_layer (F.If x y z) t c h w s b n mb m k a =
        let p = both (valid x c) (valid y c && valid z c) h in
        let q = both (valid y c) (valid z c) p.1 in
        t.0 c p.0 w s b _ mb (λ u s1 k1 a1. of_decides u s1 _ (λ k2. t.1 c q.0 w s1 b n mb m k2 a1) (λ k2. t.2 c q.1 w s1 b n mb m k2 a1) k1 a1) k a
    of_layer (F.And x y) t c h w s b n mb m k a =
        let p = both (valid x c) (valid y c) h in
        t.0 c p.0 w s b _ mb (λ u s1 k1 a1. of_decides u s1 _ (λ k2. t.1 c p.1 w s1 b n mb m k2 a1) (λ k2. m _ _ k2 a1) k1 a1) k a
    of_layer (F.Or x y) t c h w s b n mb m k a =
        let p = both (valid x c) (valid y c) h in
        t.0 c p.0 w s b _ mb (λ u s1 k1 a1. of_decides u s1 _ (λ k2. m _ _ k2 a1) (λ k2. t.1 c p.1 w s1 b n mb m k2 a1) k1 a1) k a
    of_layer (F.Block xs) t c h w s b n mb m k a = of_stmts _ xs (stmts xs t c h) V.Nothing w s b _ mb (λ y s1. m y _) k a
    of_layer (F.Eval xs) t c h w s b n mb m k a = of_items _ xs (of_bare (runs_item g Q called) xs (items xs t (evaluated c) h)) V.Nothing s b _ mb (λ y s1. m y _) k a
    of_layer (F.Spawn place) t c h w s b n mb m k a = of_spawns s.left _ s n m k a
    of_layer (F.Delete place) t c h w s b n mb m k a = of_deletes s.left place s _ (λ s1. m _ _) k a
    of_layer (F.Fetch x) t c h w s b n mb m k a = t c h w s b _ mb (λ y s1. of_value y s1 n m) k a
    of_layer (F.Print xs line) t c h w s b n mb m k a =
        of_texts _ xs (pieces xs t c h) [] IsUtf8-nil w s b _ mb
        (λ u s1 k1 u1 a1. m _ _ k1 (record { few = a1.few; utf8 = IsUtf8-append s1.out (u ++ newline line) a1.utf8 (IsUtf8-append u (newline line) u1 (newline_utf8 line)) })) k a

    of_stmt_layer : (x : Stmt-F Expr Item Piece Stmt) → BelowT PE PI PQ PT x → (c : Scope) → (stmt_step P v.views (tested_stmt x)).valid c ≡ true → Says (layerT x)
    of_stmt_layer (F.Stmt::Bind slot x) t c h w s b n mb m k a = t c (both (nat_eq slot c.view.slots) (valid x c) h).1 w s b _ mb (λ y s1. m y _) k a
    of_stmt_layer (F.Stmt::Do x) t c h w s b n mb m k a = t c h w s b n mb m k a
    of_stmt_layer (F.Return x) t c h w s b n mb m k a = t c (both c.returns (valid x c) h).1 w s b b mb mb k a

    of_item_layer : (x : Item-F Expr Item Piece Stmt) → BelowI PE PI PQ PT x → (c : Scope) → (item_step P v.views (tested_item x)).valid c ≡ true → SaysI (layerI x)
    of_item_layer (F.Define site) t c h s b n mb m k a = of_looks s.left s _ (λ w s1. of_defines s1.left site s1 _ (λ s2. m _ _)) k a
    of_item_layer (F.Item::Bind slot x) t c h s b n mb m k a =
        of_looks s.left s _ (λ w s1. t c (both (nat_eq slot c.view.slots) (valid x c) h).1 w s1 b _ mb (λ y s2. m y _)) k a
    of_item_layer (F.Item::Do x) t c h s b n mb m k a = of_looks s.left s _ (λ w s1. t c h w s1 b n mb m) k a

    of_piece_layer : (x : Piece-F Expr Item Piece Stmt) → BelowQ PE PI PQ PT x → (c : Scope) → piece_step P v.views (tested_piece x) c ≡ true → SaysQ (layerQ x)
    of_piece_layer (F.Text bytes) t c h w s b n mb m k a = m _ _ k (IsUtf8-from_is_utf8 bytes h) a
    of_piece_layer (F.Show x) t c h w s b n mb m k a = t c h w s b _ mb (λ y s1 k1 a1. m _ _ k1 (value_line P v y).utf8 a1) k a

    stepE : (e : Expr) → Below PE PI PQ PT (out-Expr e) → PE e
    stepE e t c h = subst Says (sym (runs_is g Q called e)) (of_layer (out-Expr e) t c (ap (λ (z : Test). z c) (sym (valid_is e)) ∙ h))

    stepI : (x : Item) → BelowI PE PI PQ PT (out-Item x) → PI x
    stepI x t c h = subst SaysI (sym (item_is g Q called x)) (of_item_layer (out-Item x) t c (ap (λ (z : Statement). z.valid c) (sym (item_valid_is x)) ∙ h))

    stepQ : (x : Piece) → BelowQ PE PI PQ PT (out-Piece x) → PQ x
    stepQ x t c h = subst SaysQ (sym (piece_is g Q called x)) (of_piece_layer (out-Piece x) t c (ap (λ (z : Test). z c) (sym (piece_valid_is x)) ∙ h))

    stepT : (x : Stmt) → BelowT PE PI PQ PT (out-Stmt x) → PT x
    stepT x t c h = subst Says (sym (stmt_is g Q called x)) (of_stmt_layer (out-Stmt x) t c (ap (λ (z : Statement). z.valid c) (sym (stmt_valid_is x)) ∙ h))

    of_expr : (e : Expr) → PE e
    of_expr = all PE PI PQ PT stepE stepI stepQ stepT

    of_all_items : (xs : List Item) → Each PI xs
    of_all_items [] = tt
    of_all_items (x ∷ xs) = (allI PE PI PQ PT stepE stepI stepQ stepT x, of_all_items xs)

  -- ---- calls

  abbrev IsValidBody : Body → Type 0
  IsValidBody (operation n) = Unit {0}
  IsValidBody (code sig e) = valid e (in_body sig) ≡ true

  valid_code : (site : ℕ) → prelude_count ≤ site → (o : Option Site) → slice_get P.sites site ≡ o → IsValidBody (code_of o)
  valid_code site l None e = ap (λ (z : Test). z (in_body (record { vars = []; parts = [] }))) (valid-nothing P v.views)
  valid_code site l (Some x) e = (valid_site P v site x e l).body

  valid_body : (site : ℕ) → IsValidBody (body_of P site)
  valid_body site = by (nat_lt site prelude_count) refl
    where
      by : (t : Bool) → nat_lt site prelude_count ≡ t → IsValidBody (cond t (operation site) (code_of (slice_get P.sites site)))
      by true e = tt
      by false e = valid_code site (grind (arith, e)) (slice_get P.sites site) refl

  of_counted : (s : State) (go : Type 0) → (s.calls < fuel → go → R) → either (nat_lt s.calls fuel) go (Q (O.Error (X.FuelSpent fuel)) s) → Kept s → R
  of_counted s go m k a = by (nat_lt s.calls fuel) refl k
    where
      by : (t : Bool) → nat_lt s.calls fuel ≡ t → either t go (Q (O.Error (X.FuelSpent fuel)) s) → R
      by true e k1 = m (grind (arith, e)) k1
      by false e k1 = ends _ _ k1 a tt

  of_chosen : (c : Choice) (f : ℕ) (ts : List Ty) (w : ℕ) (s : State) (n : ℕ → Type 0) → ((site : ℕ) → n site → R) → chosen g Q c f ts w s n → Kept s → R
  of_chosen (C.Method d) f ts w s n m k a = m (site_of es d) k
  of_chosen C.None f ts w s n m k a = ends _ _ k a tt
  of_chosen (C.Ambiguous x y) f ts w s n m k a = ends _ _ k a tt

  of_performs : (body : Body) → IsValidBody body → (vs : List Value) (s : State) (n : Then) (go : List Ty → Expr → Type 0) → Goes n
      → ((types : List Ty) (e : Expr) (c : Scope) → valid e c ≡ true → go types e → R) → performs g Q body vs s n go → Kept s → R
  of_performs (operation o) h vs s n go m mg k a = of_answers _ s n (operates_told o vs) m k a
  of_performs (code sig e) h vs s n go m mg k a = mg _ e (in_body sig) h k

  of_calls : (room f : ℕ) (vs : List Value) (w : ℕ) (s : State) (n : Then) → Goes n → calls g Q room f vs w s n → Kept s → R
  of_calls zero f vs w s n m k a = of_counted s _ (λ l x. ends _ _ x (record { few = omega (arith, l); utf8 = a.utf8 }) tt) k a
  of_calls (suc room) f vs w s n m k a =
      of_counted s _ (λ l x.
      let more : IsKept fuel (s.calls + 1) s.out = record { few = omega (arith, l); utf8 = a.utf8 } in
      of_chosen x.0 f (map type_of vs) w _ _ (λ site y. of_performs (body_of P site) (valid_body site) vs _ n _ m
      (λ types e c h z. of_expr (calls g Q room) (of_calls room) e c h w _ _ _ (λ u s1. m u _) (λ u s1. m u _) z more) y more) x.3 more) k a

  of_task : (o : Option Expr) (start : Start) (trace : List TraceItem) → slice_get P.spawns start.spawn ≡ o → task_runs g Q o start trace → R
  of_task None start trace is k = absurd k
  of_task (Some e) start trace is k =
      of_expr (calls g Q open_calls) (of_calls open_calls) e (in_task start.spawn (view_at P start.spawn))
      (spawned_good P v start.spawn e (slice_get_within P.spawns start.spawn e is) is).valid start.world (task_state start trace) _ _
      (λ x s k1 a1. ends _ _ k1 a1 tt) (λ x s k1 a1. ends _ _ k1 a1 tt) k (record { few = omega arith; utf8 = IsUtf8-nil })

  of_root : (trace : List TraceItem)
      → items_run (runs_item g Q (calls g Q open_calls)) P.top V.Nothing (first_state trace) (λ x s. Q (O.Value x) s) (λ x s. Q (O.Value x) s) → R
  of_root trace k =
      of_items _ P.top (turns (calls g Q open_calls) (of_calls open_calls) P.top (of_all_items (calls g Q open_calls) (of_calls open_calls) P.top) at_top v.top) V.Nothing (first_state trace) _ _
      (λ x s k1 a1. ends _ _ k1 a1 tt) (λ x s k1 a1. ends _ _ k1 a1 tt) k (record { few = omega arith; utf8 = IsUtf8-nil })

-- what a run tells
pub record IsRunTold (fuel made : ℕ) (output : List ℕ) (outcome : Outcome) : Type 0 where
  pub few : made ≤ fuel
  pub utf8 : IsUtf8 output
  pub named : IsTold outcome

end_told : (fuel made : ℕ) (output : List ℕ) (outcome : Outcome) (spawned : List Start) (o : Outcome) (s : State)
    → IsEnd outcome output made spawned o s → IsKept fuel s.calls s.out → IsTold o → IsRunTold fuel made output outcome
end_told fuel made output outcome spawned o s q a t =
    record { few = subst (λ n. n ≤ fuel) q.counted_calls a.few; utf8 = subst IsUtf8 q.printed a.utf8; named = subst IsTold q.is t }

pub run_told : (P : Program) → IsValid P → (es : List Event) (places : Option Places) (fuel : ℕ) (start : Option Start) (trace : List TraceItem) (outcome : Outcome) (output : List ℕ) (made : ℕ) (spawned : List Start)
    → Run (setting_of P es places fuel) start trace outcome output made spawned → IsRunTold fuel made output outcome
run_told P v es places fuel None trace outcome output made spawned r =
    of_root P v es places fuel (IsEnd outcome output made spawned) (IsRunTold fuel made output outcome) (end_told fuel made output outcome spawned) trace r.ran
run_told P v es places fuel (Some start) trace outcome output made spawned r =
    of_task P v es places fuel (IsEnd outcome output made spawned) (IsRunTold fuel made output outcome) (end_told fuel made output outcome spawned) (slice_get P.spawns start.spawn) start trace refl r.ran
