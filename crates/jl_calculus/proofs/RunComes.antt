-- A run with a longer trace comes to what its next item answers: a run of the trace before this item may stop there.
use Rattle.std.proofs.Common.{◌≡◌, sym, subst, refl, ℕ, zero, suc, List, [], ◌∷◌, ◌++◌, map, Bool, true, false, nat_lt, Option, Some, None, slice_get, get_or, ◌+◌, ◌∙◌, ap, length, append_assoc, append-nil, length-append, arith}
use Rattle.jl_model.specs.declared.ty.Ty.{Ty}
use Rattle.jl_program.specs.declared.choice.Choice.{Choice}
use Rattle.jl_program.specs.declared.choice.Choice.TheVariants as C
use Rattle.jl_program.specs.declared.tree.Expr.{Expr, out-Expr}
use Rattle.jl_program.specs.declared.tree.Stmt.{Stmt, out-Stmt}
use Rattle.jl_program.specs.declared.tree.Item.{Item, out-Item}
use Rattle.jl_program.specs.declared.tree.Piece.{Piece, out-Piece}
use Rattle.jl_program.specs.declared.tree.Expr.TheOpen.{Expr-F, Stmt-F, Item-F, Piece-F}
use Rattle.jl_program.specs.declared.tree.Expr.TheOpen as F
use Rattle.jl_program.specs.declared.tree.Program.{Program}
use Rattle.jl_program.specs.declared.tree.Start.{Start}
use Rattle.jl_program.specs.declared.value.Value.{Value}
use Rattle.jl_program.specs.declared.value.Value.TheVariants as V
use Rattle.jl_program.specs.Scope.{all_types}
use Rattle.jl_program.specs.Text.{value_text}
use Rattle.jl_program.specs.TypeOf.{type_of}
use Rattle.jl_calculus.specs.declared.history.Event.{Event}
use Rattle.jl_calculus.specs.declared.history.Outcome.{Outcome}
use Rattle.jl_calculus.specs.declared.history.Outcome.TheVariants as O
use Rattle.jl_calculus.specs.declared.history.TraceItem.{TraceItem}
use Rattle.jl_calculus.specs.declared.history.TraceItem.TheVariants.{Look, Def, Del, Spawn, Fetch, WorldFull, TaskFull, Absent}
use Rattle.jl_calculus.specs.Answers.{Answer}
use Rattle.jl_calculus.specs.Kept.{Places}
use Rattle.jl_calculus.specs.Operations.{make_written, test_type, test_order, test_same}
use Rattle.jl_calculus.specs.Led.{spawn_asked, asked_by, spawn_count}
use Rattle.jl_calculus.specs.Run.{Question, a_look, a_definition, a_deletion, a_spawn, a_fetch, halts, Setting, State, Then, Runs, ItemRuns, PieceRuns, Caller, Body, operation, code, body_of, each_runs, texts_run, stmts_run, items_run, either, with_scope, with_env, with_left, with_calls, with_start, start_at, binds, prints, newline, looks, defines, deletes, spawns, fetched, fetches, fetches_value, decides, answers, operation_runs, expr_runs, stmt_runs, item_runs, piece_runs, runs, runs_stmt, runs_item, runs_piece, chosen, performs, calls, open_calls, first_state, task_runs, task_state, IsEnd, Run, Comes}
use Rattle.jl_calculus.specs.World.{site_of}
use Rattle.jl_calculus.proofs.Layers.{runs_is, stmt_is, item_is, piece_is}
use Rattle.jl_calculus.proofs.RunStarts as K
use Rattle.jl_calculus.proofs.Induction.{Each, Below, BelowT, BelowI, BelowQ, all, allI}

-- The long trace goes on with this item, and with more after it.
module _ (P : Program) (es : List Event) (places : Option Places) (fuel : ℕ) (item : TraceItem) (after : List TraceItem) (spawned : List Start) (total : ℕ) (q : Question) (asks : asked_by (slice_get spawned total) item ≡ Some q) where
  abbrev g : Setting
  g = record { program = P; events = es; places = places; fuel = fuel; until = None }

  abbrev h : Setting
  h = record { program = P; events = es; places = places; fuel = fuel; until = Some q }

  -- a state with the rest of the long trace
  abbrev long : State → State
  long s = record { env = s.env; bindings = s.bindings; left = s.left ++ item ∷ after; calls = s.calls; out = s.out; starts = s.starts }

  -- the starts of a run go on to these
  abbrev Begins : List Start → Type 0
  Begins xs = (more : List Start) × (xs ++ more ≡ spawned)

  shorter : (xs : List Start) (x : Start) → Begins (xs ++ x ∷ []) → Begins xs
  shorter xs x (more, e) = (x ∷ more, sym (append_assoc xs (x ∷ []) more) ∙ e)

  module _ (Q Q' : Outcome → State → Type 0) (dead : (o : Outcome) (s : State) → Q o (long s) → Q' o s) (ends : (o : Outcome) (s : State) → Q o s → Begins s.starts) where
    -- of two states the first is the second with the rest of the long trace; those spawned and those to come are all that the short one spawns
    abbrev Longer : State → State → Type 0
    Longer s s' = (s ≡ long s') × (length s'.starts + spawn_count s'.left ≡ total)

    abbrev Goes : Then → Type 0
    Goes n = (v : Value) (s : State) → n v s → Begins s.starts

    abbrev Leads : Then → Then → Type 0
    Leads n n' = ((v : Value) (s s' : State) → Longer s s' → n v s → n' v s') × Goes n

    abbrev Moves : Runs → Runs → Type 1
    Moves r r' = (w : ℕ) (s s' : State) (b b' n n' : Then) → Longer s s' → Leads b b' → Leads n n' → r w s b n → r' w s' b' n'

    abbrev MovesI : ItemRuns → ItemRuns → Type 1
    MovesI r r' = (s s' : State) (b b' n n' : Then) → Longer s s' → Leads b b' → Leads n n' → r s b n → r' s' b' n'

    abbrev MovesQ : PieceRuns → PieceRuns → Type 1
    MovesQ r r' =
        (w : ℕ) (s s' : State) (b b' : Then) (n n' : List ℕ → State → Type 0) → Longer s s' → Leads b b' → ((t : List ℕ) (s1 s1' : State) → Longer s1 s1' → n t s1 → n' t s1')
        → ((t : List ℕ) (s1 : State) → n t s1 → Begins s1.starts) → r w s b n → r' w s' b' n'

    ended : (o : Outcome) (s s' : State) → Longer s s' → Q o s → Q' o s'
    ended o s s' e k = dead o s' (subst (Q o) e.0 k)

    -- what the starts of the long run are at each place
    abbrev StartsE : Runs → Type 1
    StartsE r = K.Starts P es places fuel Q Begins ends shorter r

    go_looks : (left : List TraceItem) (s : State) (n : ℕ → State → Type 0) → ((w : ℕ) (s1 : State) → n w s1 → Begins s1.starts) → looks g Q left s n → Begins s.starts
    go_looks = K.of_looks P es places fuel Q Begins ends shorter

    go_value : (v : Value) (s : State) (n : Then) → Goes n → fetches_value g Q v s n → Begins s.starts
    go_value = K.of_value P es places fuel Q Begins ends shorter

    go_decides : (v : Value) (s : State) (n : Bool → Type 0) → (n true → Begins s.starts) → (n false → Begins s.starts) → decides g Q v s n → Begins s.starts
    go_decides = K.of_decides P es places fuel Q Begins ends shorter

    go_answers : (o : Outcome) (s : State) (n : Then) → Goes n → answers g Q o s n → Begins s.starts
    go_answers = K.of_answers P es places fuel Q Begins ends shorter

    go_operation : (A : Answer) (s : State) (n : Then) → Goes n → operation_runs g Q A s n → Begins s.starts
    go_operation = K.of_operation P es places fuel Q Begins ends shorter

    at_end : (xs : List Start) (x : Start) (more : List Start) → slice_get ((xs ++ x ∷ []) ++ more) (length xs) ≡ Some x
    at_end [] x more = refl
    at_end (y ∷ xs) x more = at_end xs x more

    -- what is asked where the short trace has ended
    look_there : (i : TraceItem) (s : State) (n : ℕ → State → Type 0) → asked_by (slice_get spawned total) i ≡ Some q → looks g Q (i ∷ after) s n → halts (Some q) a_look
    look_there (Look w p) s n e k = cc
    look_there (Def made p) s n e k = absurd k
    look_there (Spawn child p) s n e k = absurd k
    look_there (Fetch task o p) s n e k = absurd k
    look_there (WorldFull p) s n e k = absurd k
    look_there (TaskFull p) s n e k = absurd k
    look_there (Del at_place p) s n e k = absurd k
    look_there (Absent at_place p) s n e k = absurd k

    define_there : (i : TraceItem) (site : ℕ) (s : State) (n : State → Type 0) → asked_by (slice_get spawned total) i ≡ Some q → defines g Q (i ∷ after) site s n → halts (Some q) (a_definition site)
    define_there (Def made p) site s n e k = let m : made ≡ site = k.0 in cc
    define_there (WorldFull p) site s n e k = let z : None ≡ Some q = e in absurd (cc)
    define_there (Look w p) site s n e k = absurd k
    define_there (Spawn child p) site s n e k = absurd k
    define_there (Fetch task o p) site s n e k = absurd k
    define_there (TaskFull p) site s n e k = absurd k
    define_there (Del at_place p) site s n e k = absurd k
    define_there (Absent at_place p) site s n e k = absurd k

    delete_there : (i : TraceItem) (place : ℕ) (s : State) (n : State → Type 0) → asked_by (slice_get spawned total) i ≡ Some q → deletes g Q (i ∷ after) place s n → halts (Some q) (a_deletion place)
    delete_there (Del made p) place s n e k = let m : made ≡ place = k.0 in cc
    delete_there (Absent made p) place s n e k = let m : made ≡ place = k.0 in cc
    delete_there (WorldFull p) place s n e k = let z : None ≡ Some q = e in absurd (cc)
    delete_there (Look w p) place s n e k = absurd k
    delete_there (Def made p) place s n e k = absurd k
    delete_there (Spawn child p) place s n e k = absurd k
    delete_there (Fetch task o p) place s n e k = absurd k
    delete_there (TaskFull p) place s n e k = absurd k

    spawn_there : (i : TraceItem) (start : Start) (s : State) (n : Then) → Goes n → length s.starts ≡ total → asked_by (slice_get spawned total) i ≡ Some q → spawns g Q (i ∷ after) start s n → halts (Some q) (a_spawn start)
    spawn_there (Spawn child p) start s n gn few e k =
        let r = gn (V.Task child) (with_start (with_left s after) start) k in
        let there : slice_get spawned total ≡ Some start = sym (λ i. slice_get (r.1 i) (few i)) ∙ at_end s.starts start r.0 in
        let z : Some (a_spawn start) ≡ Some q = sym (ap spawn_asked there) ∙ e in
        cc
    spawn_there (TaskFull p) start s n gn few e k = let z : None ≡ Some q = e in absurd (cc)
    spawn_there (Look w p) start s n gn few e k = absurd k
    spawn_there (Def made p) start s n gn few e k = absurd k
    spawn_there (Fetch task o p) start s n gn few e k = absurd k
    spawn_there (WorldFull p) start s n gn few e k = absurd k
    spawn_there (Del at_place p) start s n gn few e k = absurd k
    spawn_there (Absent at_place p) start s n gn few e k = absurd k

    fetch_there : (i : TraceItem) (of : ℕ) (s : State) (n : Then) → asked_by (slice_get spawned total) i ≡ Some q → fetches g Q (i ∷ after) of s n → halts (Some q) (a_fetch of)
    fetch_there (Fetch task o p) of s n e k = let m : task ≡ of = k.0 in cc
    fetch_there (Look w p) of s n e k = absurd k
    fetch_there (Def made p) of s n e k = absurd k
    fetch_there (Spawn child p) of s n e k = absurd k
    fetch_there (WorldFull p) of s n e k = absurd k
    fetch_there (TaskFull p) of s n e k = absurd k
    fetch_there (Del at_place p) of s n e k = absurd k
    fetch_there (Absent at_place p) of s n e k = absurd k

    looks_in : (left : List TraceItem) (s : State) → length s.starts + spawn_count left ≡ total → (n n' : ℕ → State → Type 0) → ((w : ℕ) (s1 s1' : State) → Longer s1 s1' → n w s1 → n' w s1') → looks g Q (left ++ item ∷ after) (long s) n → looks h Q' left s n'
    looks_in [] s c n n' m k = look_there item (long s) n asks k
    looks_in (Look w p ∷ rest) s c n n' m k = m w _ (with_left s rest) (refl, c) k
    looks_in (Def made p ∷ rest) s c n n' m k = absurd k
    looks_in (Spawn child p ∷ rest) s c n n' m k = absurd k
    looks_in (Fetch task o p ∷ rest) s c n n' m k = absurd k
    looks_in (WorldFull p ∷ rest) s c n n' m k = absurd k
    looks_in (TaskFull p ∷ rest) s c n n' m k = absurd k
    looks_in (Del at_place p ∷ rest) s c n n' m k = absurd k
    looks_in (Absent at_place p ∷ rest) s c n n' m k = absurd k

    moves_looks : (s s' : State) (n n' : ℕ → State → Type 0) → Longer s s' → ((w : ℕ) (s1 s1' : State) → Longer s1 s1' → n w s1 → n' w s1') → looks g Q s.left s n → looks h Q' s'.left s' n'
    moves_looks s s' n n' e m k = looks_in s'.left s' e.1 n n' m (subst (λ (z : State). looks g Q z.left z n) e.0 k)

    defines_in : (left : List TraceItem) (site : ℕ) (s : State) → length s.starts + spawn_count left ≡ total → (n n' : State → Type 0) → ((s1 s1' : State) → Longer s1 s1' → n s1 → n' s1') → defines g Q (left ++ item ∷ after) site (long s) n → defines h Q' left site s n'
    defines_in [] site s c n n' m k = define_there item site (long s) n asks k
    defines_in (Def made p ∷ rest) site s c n n' m k = (k.0, m _ (with_left s rest) (refl, c) k.1)
    defines_in (WorldFull p ∷ rest) site s c n n' m k = dead _ (with_left s rest) k
    defines_in (Look w p ∷ rest) site s c n n' m k = absurd k
    defines_in (Spawn child p ∷ rest) site s c n n' m k = absurd k
    defines_in (Fetch task o p ∷ rest) site s c n n' m k = absurd k
    defines_in (TaskFull p ∷ rest) site s c n n' m k = absurd k
    defines_in (Del at_place p ∷ rest) site s c n n' m k = absurd k
    defines_in (Absent at_place p ∷ rest) site s c n n' m k = absurd k

    moves_defines : (site : ℕ) (s s' : State) (n n' : State → Type 0) → Longer s s' → ((s1 s1' : State) → Longer s1 s1' → n s1 → n' s1') → defines g Q s.left site s n → defines h Q' s'.left site s' n'
    moves_defines site s s' n n' e m k = defines_in s'.left site s' e.1 n n' m (subst (λ (z : State). defines g Q z.left site z n) e.0 k)

    deletes_in : (left : List TraceItem) (place : ℕ) (s : State) → length s.starts + spawn_count left ≡ total → (n n' : State → Type 0) → ((s1 s1' : State) → Longer s1 s1' → n s1 → n' s1') → deletes g Q (left ++ item ∷ after) place (long s) n → deletes h Q' left place s n'
    deletes_in [] place s c n n' m k = delete_there item place (long s) n asks k
    deletes_in (Del made p ∷ rest) place s c n n' m k = (k.0, m _ (with_left s rest) (refl, c) k.1)
    deletes_in (Absent made p ∷ rest) place s c n n' m k = (k.0, dead _ (with_left s rest) k.1)
    deletes_in (WorldFull p ∷ rest) place s c n n' m k = dead _ (with_left s rest) k
    deletes_in (Look w p ∷ rest) place s c n n' m k = absurd k
    deletes_in (Def made p ∷ rest) place s c n n' m k = absurd k
    deletes_in (Spawn child p ∷ rest) place s c n n' m k = absurd k
    deletes_in (Fetch task o p ∷ rest) place s c n n' m k = absurd k
    deletes_in (TaskFull p ∷ rest) place s c n n' m k = absurd k

    moves_deletes : (place : ℕ) (s s' : State) (n n' : State → Type 0) → Longer s s' → ((s1 s1' : State) → Longer s1 s1' → n s1 → n' s1') → deletes g Q s.left place s n → deletes h Q' s'.left place s' n'
    moves_deletes place s s' n n' e m k = deletes_in s'.left place s' e.1 n n' m (subst (λ (z : State). deletes g Q z.left place z n) e.0 k)

    spawns_in : (left : List TraceItem) (start : Start) (s : State) → length s.starts + spawn_count left ≡ total → (n n' : Then) → Leads n n' → spawns g Q (left ++ item ∷ after) start (long s) n → spawns h Q' left start s n'
    spawns_in [] start s c n n' m k = spawn_there item start (long s) n m.1 (omega (arith, c)) asks k
    spawns_in (Spawn child p ∷ rest) start s c n n' m k = m.0 (V.Task child) _ (with_start (with_left s rest) start) (refl, omega (arith, c, length-append s.starts (start ∷ []))) k
    spawns_in (TaskFull p ∷ rest) start s c n n' m k = dead _ (with_left s rest) k
    spawns_in (Look w p ∷ rest) start s c n n' m k = absurd k
    spawns_in (Def made p ∷ rest) start s c n n' m k = absurd k
    spawns_in (Fetch task o p ∷ rest) start s c n n' m k = absurd k
    spawns_in (WorldFull p ∷ rest) start s c n n' m k = absurd k
    spawns_in (Del at_place p ∷ rest) start s c n n' m k = absurd k
    spawns_in (Absent at_place p ∷ rest) start s c n n' m k = absurd k

    moves_spawns : (place w : ℕ) (s s' : State) (n n' : Then) → Longer s s' → Leads n n' → spawns g Q s.left (start_at place w s) s n → spawns h Q' s'.left (start_at place w s') s' n'
    moves_spawns place w s s' n n' e m k = spawns_in s'.left (start_at place w s') s' e.1 n n' m (subst (λ (z : State). spawns g Q z.left (start_at place w z) z n) e.0 k)

    moves_fetched : (task : ℕ) (o : Outcome) (s s' : State) (n n' : Then) → Longer s s' → Leads n n' → fetched g Q task o s n → fetched h Q' task o s' n'
    moves_fetched task (O.Value v) s s' n n' e m k = m.0 v s s' e k
    moves_fetched task (O.Error f) s s' n n' e m k = ended _ s s' e k

    fetches_in : (left : List TraceItem) (of : ℕ) (s : State) → length s.starts + spawn_count left ≡ total → (n n' : Then) → Leads n n' → fetches g Q (left ++ item ∷ after) of (long s) n → fetches h Q' left of s n'
    fetches_in [] of s c n n' m k = fetch_there item of (long s) n asks k
    fetches_in (Fetch task o p ∷ rest) of s c n n' m k = (k.0, moves_fetched task o _ (with_left s rest) n n' (refl, c) m k.1)
    fetches_in (Look w p ∷ rest) of s c n n' m k = absurd k
    fetches_in (Def made p ∷ rest) of s c n n' m k = absurd k
    fetches_in (Spawn child p ∷ rest) of s c n n' m k = absurd k
    fetches_in (WorldFull p ∷ rest) of s c n n' m k = absurd k
    fetches_in (TaskFull p ∷ rest) of s c n n' m k = absurd k
    fetches_in (Del at_place p ∷ rest) of s c n n' m k = absurd k
    fetches_in (Absent at_place p ∷ rest) of s c n n' m k = absurd k

    moves_value : (v : Value) (s s' : State) (n n' : Then) → Longer s s' → Leads n n' → fetches_value g Q v s n → fetches_value h Q' v s' n'
    moves_value (V.Task task) s s' n n' e m k = fetches_in s'.left task s' e.1 n n' m (subst (λ (z : State). fetches g Q z.left task z n) e.0 k)
    moves_value (V.Int i) s s' n n' e m k = ended _ s s' e k
    moves_value (V.Bool b) s s' n n' e m k = ended _ s s' e k
    moves_value V.Nothing s s' n n' e m k = ended _ s s' e k
    moves_value (V.Tuple c) s s' n n' e m k = ended _ s s' e k
    moves_value (V.Struct c) s s' n n' e m k = ended _ s s' e k

    moves_decides : (v : Value) (s s' : State) (n n' : Bool → Type 0) → Longer s s' → (n true → n' true) → (n false → n' false) → decides g Q v s n → decides h Q' v s' n'
    moves_decides (V.Bool true) s s' n n' e on_true on_false k = on_true k
    moves_decides (V.Bool false) s s' n n' e on_true on_false k = on_false k
    moves_decides (V.Int i) s s' n n' e on_true on_false k = ended _ s s' e k
    moves_decides V.Nothing s s' n n' e on_true on_false k = ended _ s s' e k
    moves_decides (V.Task t) s s' n n' e on_true on_false k = ended _ s s' e k
    moves_decides (V.Tuple c) s s' n n' e on_true on_false k = ended _ s s' e k
    moves_decides (V.Struct c) s s' n n' e on_true on_false k = ended _ s s' e k

    moves_answers : (o : Outcome) (s s' : State) (n n' : Then) → Longer s s' → Leads n n' → answers g Q o s n → answers h Q' o s' n'
    moves_answers (O.Value v) s s' n n' e m k = m.0 v s s' e k
    moves_answers (O.Error f) s s' n n' e m k = ended _ s s' e k

    moves_operation : (A : Answer) (s s' : State) (n n' : Then) → Longer s s' → Leads n n' → operation_runs g Q A s n → operation_runs h Q' A s' n'
    moves_operation A s s' n n' e m (o, is, k) = (o, is, moves_answers o s s' n n' e m k)

    moves_each : {X : Type 0} (r r' : X → Runs) (xs : List X) → Each (λ x. Moves (r x) (r' x)) xs → Each (λ x. StartsE (r x)) xs → (done : List Value) (w : ℕ) (s s' : State) (b b' : Then) (n n' : List Value → State → Type 0)
        → Longer s s' → Leads b b' → ((vs : List Value) (s1 s1' : State) → Longer s1 s1' → n vs s1 → n' vs s1') → ((vs : List Value) (s1 : State) → n vs s1 → Begins s1.starts) → each_runs r xs done w s b n → each_runs r' xs done w s' b' n'
    moves_each r r' [] t u done w s s' b b' n n' e mb m gn k = m done s s' e k
    moves_each r r' (x ∷ xs) t u done w s s' b b' n n' e mb m gn k =
        t.0 w s s' b b' _ _ e mb (
          (λ v s1 s1' e1. moves_each r r' xs t.1 u.1 (done ++ v ∷ []) w s1 s1' b b' n n' e1 mb m gn),
          (λ v s1. K.of_each P es places fuel Q Begins ends shorter r xs u.1 (done ++ v ∷ []) w s1 b n mb.1 gn),
        ) k

    moves_texts : {X : Type 0} (r r' : X → PieceRuns) (xs : List X) → Each (λ x. MovesQ (r x) (r' x)) xs → Each (λ x. K.StartsQ P es places fuel Q Begins ends shorter (r x)) xs → (text : List ℕ) → MovesQ (texts_run r xs text) (texts_run r' xs text)
    moves_texts r r' [] t u text w s s' b b' n n' e mb m gn k = m text s s' e k
    moves_texts r r' (x ∷ xs) t u text w s s' b b' n n' e mb m gn k =
        t.0 w s s' b b' _ _ e mb (λ v s1 s1' e1. moves_texts r r' xs t.1 u.1 (text ++ v) w s1 s1' b b' n n' e1 mb m gn)
        (λ v s1. K.of_texts P es places fuel Q Begins ends shorter r xs u.1 (text ++ v) w s1 b n mb.1 gn) k

    moves_stmts : {X : Type 0} (r r' : X → Runs) (xs : List X) → Each (λ x. Moves (r x) (r' x)) xs → Each (λ x. StartsE (r x)) xs → (last : Value) → Moves (stmts_run r xs last) (stmts_run r' xs last)
    moves_stmts r r' [] t u last w s s' b b' n n' e mb m k = m.0 last s s' e k
    moves_stmts r r' (x ∷ xs) t u last w s s' b b' n n' e mb m k =
        t.0 w s s' b b' _ _ e mb (
          (λ v s1 s1' e1. moves_stmts r r' xs t.1 u.1 v w s1 s1' b b' n n' e1 mb m),
          (λ v s1. K.of_stmts P es places fuel Q Begins ends shorter r xs u.1 v w s1 b n mb.1 m.1),
        ) k

    moves_items : {X : Type 0} (r r' : X → ItemRuns) (xs : List X) → Each (λ x. MovesI (r x) (r' x)) xs → Each (λ x. K.StartsI P es places fuel Q Begins ends shorter (r x)) xs → (last : Value) → MovesI (items_run r xs last) (items_run r' xs last)
    moves_items r r' [] t u last s s' b b' n n' e mb m k = m.0 last s s' e k
    moves_items r r' (x ∷ xs) t u last s s' b b' n n' e mb m k =
        t.0 s s' b b' _ _ e mb (
          (λ v s1 s1' e1. moves_items r r' xs t.1 u.1 v s1 s1' b b' n n' e1 mb m),
          (λ v s1. K.of_items P es places fuel Q Begins ends shorter r xs u.1 v s1 b n mb.1 m.1),
        ) k

    -- statements that see no names
    bare_items : {X : Type 0} (r r' : X → ItemRuns) (xs : List X) → Each (λ x. MovesI (r x) (r' x)) xs
        → Each (λ x. MovesI (λ s. r x (with_scope s [] [])) (λ s. r' x (with_scope s [] []))) xs
    bare_items r r' [] t = tt
    bare_items r r' (x ∷ xs) t =
        ((λ s s' b b' n n' e mb m k. t.0 (with_scope s [] []) (with_scope s' [] []) b b' n n' ((λ i. with_scope (e.0 i) [] []), e.1) mb m k), bare_items r r' xs t.1)

    module _ (called called' : Caller) (moves_called : (f : ℕ) (vs : List Value) (w : ℕ) (s s' : State) (n n' : Then) → Longer s s' → Leads n n' → called f vs w s n → called' f vs w s' n')
        (starts_called : (f : ℕ) (vs : List Value) (w : ℕ) (s : State) (n : Then) → Goes n → called f vs w s n → Begins s.starts) where
      abbrev PE : Expr → Type 1
      PE e = Moves (runs g Q called e) (runs h Q' called' e)

      abbrev PT : Stmt → Type 1
      PT x = Moves (runs_stmt g Q called x) (runs_stmt h Q' called' x)

      abbrev PI : Item → Type 1
      PI x = MovesI (runs_item g Q called x) (runs_item h Q' called' x)

      abbrev PQ : Piece → Type 1
      PQ x = MovesQ (runs_piece g Q called x) (runs_piece h Q' called' x)

      abbrev layer : Setting → (Outcome → State → Type 0) → Caller → Expr-F Expr Item Piece Stmt → Runs
      layer k R c = expr_runs k R c (runs k R c) (runs_item k R c) (runs_piece k R c) (runs_stmt k R c)

      abbrev layerT : Setting → (Outcome → State → Type 0) → Caller → Stmt-F Expr Item Piece Stmt → Runs
      layerT k R c = stmt_runs k R c (runs k R c) (runs_item k R c) (runs_piece k R c) (runs_stmt k R c)

      abbrev layerI : Setting → (Outcome → State → Type 0) → Caller → Item-F Expr Item Piece Stmt → ItemRuns
      layerI k R c = item_runs k R c (runs k R c) (runs_item k R c) (runs_piece k R c) (runs_stmt k R c)

      abbrev layerQ : Setting → (Outcome → State → Type 0) → Caller → Piece-F Expr Item Piece Stmt → PieceRuns
      layerQ k R c = piece_runs k R c (runs k R c) (runs_item k R c) (runs_piece k R c) (runs_stmt k R c)

      go_expr : (e : Expr) → StartsE (runs g Q called e)
      go_expr = K.of_expr P es places fuel Q Begins ends shorter called starts_called

      go_exprs : (xs : List Expr) → Each (λ x. StartsE (runs g Q called x)) xs
      go_exprs = K.of_exprs P es places fuel Q Begins ends shorter called starts_called

      moves_layer : (x : Expr-F Expr Item Piece Stmt) → Below PE PI PQ PT x → Moves (layer g Q called x) (layer h Q' called' x)
      moves_layer (F.Int i) t w s s' b b' n n' e mb m k = m.0 (V.Int i) s s' e k
      moves_layer (F.Bool i) t w s s' b b' n n' e mb m k = m.0 (V.Bool i) s s' e k
      moves_layer F.Nothing t w s s' b b' n n' e mb m k = m.0 V.Nothing s s' e k
      moves_layer (F.Local x) t w s s' b b' n n' e mb m k = m.0 (get_or s'.env x V.Nothing) s s' e (subst (λ (env : List Value). n (get_or env x V.Nothing) s) (λ i. (e.0 i).env) k)
      moves_layer (F.Call f xs) t w s s' b b' n n' e mb m k =
          moves_each _ _ xs t (go_exprs xs) [] w s s' b b' _ _ e mb (λ vs s1 s1' e1. moves_called f vs w s1 s1' n n' e1 m) (λ vs s1. starts_called f vs w s1 n m.1) k
      moves_layer (F.Latest f xs) t w s s' b b' n n' e mb m k =
          moves_each _ _ xs t (go_exprs xs) [] w s s' b b' _ _ e mb (λ vs s1 s1' e1. moves_looks s1 s1' _ _ e1 (λ v s2 s2' e2. moves_called f vs v s2 s2' n n' e2 m))
          (λ vs s1. go_looks s1.left s1 _ (λ v s2. starts_called f vs v s2 n m.1)) k
      moves_layer (F.Make ty xs) t w s s' b b' n n' e mb m k =
          moves_each _ _ xs t (go_exprs xs) [] w s s' b b' _ _ e mb
          (λ vs s1 s1' e1 k1. moves_operation (make_written (all_types P) s1'.bindings ty vs) s1 s1' n n' e1 m
          (subst (λ (types : List Ty). operation_runs g Q (make_written (all_types P) types ty vs) s1 n) (λ i. (e1.0 i).bindings) k1)) (λ vs s1. go_operation _ s1 n m.1) k
      moves_layer (F.Infer name xs) t w s s' b b' n n' e mb m k =
          moves_each _ _ xs t (go_exprs xs) [] w s s' b b' _ _ e mb (λ vs s1 s1' e1. moves_operation _ s1 s1' n n' e1 m) (λ vs s1. go_operation _ s1 n m.1) k
      moves_layer (F.Parts xs) t w s s' b b' n n' e mb m k =
          moves_each _ _ xs t (go_exprs xs) [] w s s' b b' _ _ e mb (λ vs s1 s1' e1. moves_operation _ s1 s1' n n' e1 m) (λ vs s1. go_operation _ s1 n m.1) k
      moves_layer (F.Field x name) t w s s' b b' n n' e mb m k = t w s s' b b' _ _ e mb ((λ v s1 s1' e1. moves_answers _ s1 s1' n n' e1 m), (λ v s1. go_answers _ s1 n m.1)) k
      moves_layer (F.Part x number) t w s s' b b' n n' e mb m k = t w s s' b b' _ _ e mb ((λ v s1 s1' e1. moves_answers _ s1 s1' n n' e1 m), (λ v s1. go_answers _ s1 n m.1)) k
      moves_layer (F.Egal x y negated) t w s s' b b' n n' e mb m k =
          t.0 w s s' b b' _ _ e mb (
            (λ u s1 s1' e1. t.1 w s1 s1' b b' _ _ e1 mb ((λ v s2 s2' e2. moves_operation (test_same negated u v) s2 s2' n n' e2 m), (λ v s2. go_operation _ s2 n m.1))),
            (λ u s1. go_expr y w s1 b _ mb.1 (λ v s2. go_operation _ s2 n m.1)),
          ) k
      moves_layer (F.Isa x ty) t w s s' b b' n n' e mb m k =
          t w s s' b b' _ _ e mb (
            (λ v s1 s1' e1 k1. moves_operation (test_type (all_types P) s1'.bindings v ty) s1 s1' n n' e1 m
                (subst (λ (types : List Ty). operation_runs g Q (test_type (all_types P) types v ty) s1 n) (λ i. (e1.0 i).bindings) k1)),
            (λ v s1. go_operation _ s1 n m.1),
          ) k
      moves_layer (F.Sub ty ty') t w s s' b b' n n' e mb m k =
          moves_operation (test_order (all_types P) s'.bindings ty ty') s s' n n' e m
          (subst (λ (types : List Ty). operation_runs g Q (test_order (all_types P) types ty ty') s n) (λ i. (e.0 i).bindings) k)
      moves_layer (F.If x y z) t w s s' b b' n n' e mb m k =
          t.0 w s s' b b' _ _ e mb (
            (λ v s1 s1' e1. moves_decides v s1 s1' _ _ e1 (t.1 w s1 s1' b b' n n' e1 mb m) (t.2 w s1 s1' b b' n n' e1 mb m)),
            (λ v s1. go_decides v s1 _ (go_expr y w s1 b n mb.1 m.1) (go_expr z w s1 b n mb.1 m.1)),
          ) k
      moves_layer (F.And x y) t w s s' b b' n n' e mb m k =
          t.0 w s s' b b' _ _ e mb (
            (λ v s1 s1' e1. moves_decides v s1 s1' _ _ e1 (t.1 w s1 s1' b b' n n' e1 mb m) (m.0 (V.Bool false) s1 s1' e1)),
            (λ v s1. go_decides v s1 _ (go_expr y w s1 b n mb.1 m.1) (m.1 _ _)),
          ) k
      moves_layer (F.Or x y) t w s s' b b' n n' e mb m k =
          t.0 w s s' b b' _ _ e mb (
            (λ v s1 s1' e1. moves_decides v s1 s1' _ _ e1 (m.0 (V.Bool true) s1 s1' e1) (t.1 w s1 s1' b b' n n' e1 mb m)),
            (λ v s1. go_decides v s1 _ (m.1 _ _) (go_expr y w s1 b n mb.1 m.1)),
          ) k
      moves_layer (F.Block xs) t w s s' b b' n n' e mb m k =
          moves_stmts _ _ xs t (K.of_all_stmts P es places fuel Q Begins ends shorter called starts_called xs) V.Nothing w s s' b b' _ _ e mb (
            (λ v s1 s1' e1. m.0 v (with_env s1 s.env) (with_env s1' s'.env) ((λ i. with_env (e1.0 i) (e.0 i).env), e1.1)),
            (λ v s1. m.1 v _),
          ) k
      moves_layer (F.Eval xs) t w s s' b b' n n' e mb m k =
          moves_items _ _ xs (bare_items (runs_item g Q called) (runs_item h Q' called') xs t)
          (K.of_bare P es places fuel Q Begins ends shorter (runs_item g Q called) xs (K.of_all_items P es places fuel Q Begins ends shorter called starts_called xs)) V.Nothing s s' b b' _ _ e mb (
            (λ v s1 s1' e1. m.0 v (with_scope s1 s.env s.bindings) (with_scope s1' s'.env s'.bindings) ((λ i. with_scope (e1.0 i) (e.0 i).env (e.0 i).bindings), e1.1)),
            (λ v s1. m.1 v _),
          ) k
      moves_layer (F.Spawn place) t w s s' b b' n n' e mb m k = moves_spawns place w s s' n n' e m k
      moves_layer (F.Delete place) t w s s' b b' n n' e mb m k = moves_deletes place s s' _ _ e (λ s1 s1' e1. m.0 V.Nothing s1 s1' e1) k
      moves_layer (F.Fetch x) t w s s' b b' n n' e mb m k = t w s s' b b' _ _ e mb ((λ v s1 s1' e1. moves_value v s1 s1' n n' e1 m), (λ v s1. go_value v s1 n m.1)) k
      moves_layer (F.Print xs line) t w s s' b b' n n' e mb m k =
          moves_texts _ _ xs t (K.of_all_pieces P es places fuel Q Begins ends shorter called starts_called xs) [] w s s' b b' _ _ e mb
          (λ u s1 s1' e1. m.0 V.Nothing (prints s1 (u ++ newline line)) (prints s1' (u ++ newline line)) ((λ i. prints (e1.0 i) (u ++ newline line)), e1.1)) (λ u s1. m.1 _ _) k

      moves_stmt : (x : Stmt-F Expr Item Piece Stmt) → BelowT PE PI PQ PT x → Moves (layerT g Q called x) (layerT h Q' called' x)
      moves_stmt (F.Stmt::Bind slot x) t w s s' b b' n n' e mb m k =
          t w s s' b b' _ _ e mb ((λ v s1 s1' e1. m.0 v (binds s1 slot v) (binds s1' slot v) ((λ i. binds (e1.0 i) slot v), e1.1)), (λ v s1. m.1 v _)) k
      moves_stmt (F.Stmt::Do x) t w s s' b b' n n' e mb m k = t w s s' b b' n n' e mb m k
      moves_stmt (F.Return x) t w s s' b b' n n' e mb m k = t w s s' b b' b b' e mb mb k

      moves_item : (x : Item-F Expr Item Piece Stmt) → BelowI PE PI PQ PT x → MovesI (layerI g Q called x) (layerI h Q' called' x)
      moves_item (F.Define site) t s s' b b' n n' e mb m k =
          moves_looks s s' _ _ e (λ w s1 s1' e1. moves_defines site s1 s1' _ _ e1 (λ s2 s2' e2. m.0 V.Nothing s2 s2' e2)) k
      moves_item (F.Item::Bind slot x) t s s' b b' n n' e mb m k =
          moves_looks s s' _ _ e
          (λ w s1 s1' e1. t w s1 s1' b b' _ _ e1 mb ((λ v s2 s2' e2. m.0 v (binds s2 slot v) (binds s2' slot v) ((λ i. binds (e2.0 i) slot v), e2.1)), (λ v s2. m.1 v _))) k
      moves_item (F.Item::Do x) t s s' b b' n n' e mb m k = moves_looks s s' _ _ e (λ w s1 s1' e1. t w s1 s1' b b' n n' e1 mb m) k

      moves_piece : (x : Piece-F Expr Item Piece Stmt) → BelowQ PE PI PQ PT x → MovesQ (layerQ g Q called x) (layerQ h Q' called' x)
      moves_piece (F.Text bytes) t w s s' b b' n n' e mb m gn k = m bytes s s' e k
      moves_piece (F.Show x) t w s s' b b' n n' e mb m gn k = t w s s' b b' _ _ e mb ((λ v s1 s1' e1. m (value_text P v) s1 s1' e1), (λ v s1. gn _ _)) k

      both : (r r' q q' : Runs) → r ≡ q → r' ≡ q' → Moves q q' → Moves r r'
      both r r' q q' e e' t = subst (λ (z : Runs). Moves z r') (sym e) (subst (λ (z : Runs). Moves q z) (sym e') t)

      bothI : (r r' q q' : ItemRuns) → r ≡ q → r' ≡ q' → MovesI q q' → MovesI r r'
      bothI r r' q q' e e' t = subst (λ (z : ItemRuns). MovesI z r') (sym e) (subst (λ (z : ItemRuns). MovesI q z) (sym e') t)

      bothQ : (r r' q q' : PieceRuns) → r ≡ q → r' ≡ q' → MovesQ q q' → MovesQ r r'
      bothQ r r' q q' e e' t = subst (λ (z : PieceRuns). MovesQ z r') (sym e) (subst (λ (z : PieceRuns). MovesQ q z) (sym e') t)

      stepE : (e : Expr) → Below PE PI PQ PT (out-Expr e) → PE e
      stepE e t = both _ _ _ _ (runs_is g Q called e) (runs_is h Q' called' e) (moves_layer (out-Expr e) t)

      stepI : (x : Item) → BelowI PE PI PQ PT (out-Item x) → PI x
      stepI x t = bothI _ _ _ _ (item_is g Q called x) (item_is h Q' called' x) (moves_item (out-Item x) t)

      stepQ : (x : Piece) → BelowQ PE PI PQ PT (out-Piece x) → PQ x
      stepQ x t = bothQ _ _ _ _ (piece_is g Q called x) (piece_is h Q' called' x) (moves_piece (out-Piece x) t)

      stepT : (x : Stmt) → BelowT PE PI PQ PT (out-Stmt x) → PT x
      stepT x t = both _ _ _ _ (stmt_is g Q called x) (stmt_is h Q' called' x) (moves_stmt (out-Stmt x) t)

      moves : (e : Expr) → PE e
      moves = all PE PI PQ PT stepE stepI stepQ stepT

      each_item : (xs : List Item) → Each PI xs
      each_item [] = tt
      each_item (x ∷ xs) = (allI PE PI PQ PT stepE stepI stepQ stepT x, each_item xs)

    moves_counted : (y : Bool) (go go' : Type 0) (s : State) (o : Outcome) → (go → go') → either y go (Q o (long s)) → either y go' (Q' o s)
    moves_counted true go go' s o m k = m k
    moves_counted false go go' s o m k = dead o s k

    moves_chosen : (c : Choice) (f : ℕ) (ts : List Ty) (w : ℕ) (s : State) (n n' : ℕ → Type 0) → ((site : ℕ) → n site → n' site) → chosen g Q c f ts w (long s) n → chosen h Q' c f ts w s n'
    moves_chosen (C.Method d) f ts w s n n' m k = m (site_of es d) k
    moves_chosen C.None f ts w s n n' m k = dead _ s k
    moves_chosen (C.Ambiguous a b) f ts w s n n' m k = dead _ s k

    moves_performs : (body : Body) (vs : List Value) (s : State) → length s.starts + spawn_count s.left ≡ total → (n n' : Then) (go go' : List Ty → Expr → Type 0) → Leads n n' → ((types : List Ty) (e : Expr) → go types e → go' types e)
        → performs g Q body vs (long s) n go → performs h Q' body vs s n' go'
    moves_performs (operation o) vs s c n n' go go' m mg k = moves_answers _ (long s) s n n' (refl, c) m k
    moves_performs (code sig e) vs s c n n' go go' m mg k = mg _ e k

    abbrev Calls : Caller → Caller → Type 1
    Calls c c' = (f : ℕ) (vs : List Value) (w : ℕ) (s s' : State) (n n' : Then) → Longer s s' → Leads n n' → c f vs w s n → c' f vs w s' n'

    from_long : (c c' : Caller) → ((f : ℕ) (vs : List Value) (w : ℕ) (s : State) (n n' : Then) → length s.starts + spawn_count s.left ≡ total → Leads n n' → c f vs w (long s) n → c' f vs w s n') → Calls c c'
    from_long c c' t f vs w s s' n n' e m k = t f vs w s' n n' e.1 m (subst (λ (z : State). c f vs w z n) e.0 k)

    calls_in : (room f : ℕ) (vs : List Value) (w : ℕ) (s : State) (n n' : Then) → length s.starts + spawn_count s.left ≡ total → Leads n n' → calls g Q room f vs w (long s) n → calls h Q' room f vs w s n'
    calls_in zero f vs w s n n' c m k = moves_counted (nat_lt s.calls fuel) _ _ s _ (λ x. dead _ (with_calls s (s.calls + 1)) x) k
    calls_in (suc room) f vs w s n n' c m k =
        moves_counted (nat_lt s.calls fuel) _ _ s _ (λ x. (
          x.0,
          x.1,
          x.2,
          moves_chosen x.0 f (map type_of vs) w (with_calls s (s.calls + 1)) _ _ (λ site. moves_performs (body_of P site) vs (with_calls s (s.calls + 1)) c n n' _ _ m
              (λ types e. moves (calls g Q room) (calls h Q' room) (from_long (calls g Q room) (calls h Q' room) (calls_in room)) (K.of_calls P es places fuel Q Begins ends shorter room) e w _
              (with_scope (with_calls s (s.calls + 1)) vs types) _ _ _ _ (refl, c)
              ((λ v s1 s1' e1. m.0 v (with_scope s1 s.env s.bindings) (with_scope s1' s.env s.bindings) ((λ i. with_scope (e1.0 i) s.env s.bindings), e1.1)), (λ v s1. m.1 v _))
              ((λ v s1 s1' e1. m.0 v (with_scope s1 s.env s.bindings) (with_scope s1' s.env s.bindings) ((λ i. with_scope (e1.0 i) s.env s.bindings), e1.1)), (λ v s1. m.1 v _)))) x.3,
        )) k

    moves_calls : (room : ℕ) → Calls (calls g Q room) (calls h Q' room)
    moves_calls room = from_long (calls g Q room) (calls h Q' room) (calls_in room)

    end_leads : Leads (λ v s. Q (O.Value v) s) (λ v s. Q' (O.Value v) s)
    end_leads = ((λ v s s' e. ended (O.Value v) s s' e), (λ v s k. ends (O.Value v) s k))

    moves_task : (o : Option Expr) (start : Start) (before : List TraceItem) → spawn_count before ≡ total → task_runs g Q o start (before ++ item ∷ after) → task_runs h Q' o start before
    moves_task None start before c k = k
    moves_task (Some e) start before c k =
        moves (calls g Q open_calls) (calls h Q' open_calls) (moves_calls open_calls) (K.of_calls P es places fuel Q Begins ends shorter open_calls) e start.world _ (task_state start before) _ _ _ _
        (refl, omega (arith, c)) end_leads end_leads k

    moves_root : (before : List TraceItem) → spawn_count before ≡ total
        → items_run (runs_item g Q (calls g Q open_calls)) P.top V.Nothing (first_state (before ++ item ∷ after)) (λ v s. Q (O.Value v) s) (λ v s. Q (O.Value v) s)
        → items_run (runs_item h Q' (calls h Q' open_calls)) P.top V.Nothing (first_state before) (λ v s. Q' (O.Value v) s) (λ v s. Q' (O.Value v) s)
    moves_root before c k =
        moves_items _ _ P.top (each_item (calls g Q open_calls) (calls h Q' open_calls) (moves_calls open_calls) (K.of_calls P es places fuel Q Begins ends shorter open_calls) P.top)
        (K.of_all_items P es places fuel Q Begins ends shorter (calls g Q open_calls) (K.of_calls P es places fuel Q Begins ends shorter open_calls) P.top) V.Nothing _ (first_state before) _ _ _ _
        (refl, omega (arith, c)) end_leads end_leads k

not_empty : (xs ys : List TraceItem) (x : TraceItem) → xs ++ x ∷ ys ≡ [] → ⊥
not_empty [] ys x e = cc
not_empty (z ∷ xs) ys x e = cc

-- a run comes to the question that an item of its trace answers
pub run_comes : (P : Program) (es : List Event) (places : Option Places) (fuel : ℕ) (start : Option Start) (before : List TraceItem) (item : TraceItem) (after : List TraceItem) (o : Outcome) (out : List ℕ) (made : ℕ) (spawned : List Start) (q : Question)
    → Run (record { program = P; events = es; places = places; fuel = fuel; until = None }) start (before ++ item ∷ after) o out made spawned → asked_by (slice_get spawned (spawn_count before)) item ≡ Some q
    → Comes P es places fuel start before q
run_comes P es places fuel None before item after o out made spawned q r e o' out' made' spawned' = record {
  ran = moves_root P es places fuel item after spawned (spawn_count before) q e (IsEnd o out made spawned) (IsEnd o' out' made' spawned') (λ p s k. absurd (not_empty s.left after item k.whole))
      (λ p s k. ([], append-nil s.starts ∙ k.spawned_tasks)) before refl r.ran;
}
run_comes P es places fuel (Some start) before item after o out made spawned q r e o' out' made' spawned' = record {
  ran = moves_task P es places fuel item after spawned (spawn_count before) q e (IsEnd o out made spawned) (IsEnd o' out' made' spawned') (λ p s k. absurd (not_empty s.left after item k.whole))
      (λ p s k. ([], append-nil s.starts ∙ k.spawned_tasks)) (slice_get P.spawns start.spawn) start before refl r.ran;
}
