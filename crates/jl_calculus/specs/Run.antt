-- The calculus: what a program does, as a relation that consumes a trace from left to right (Julia manual, Methods:
-- Redefining Methods; Control Flow; Belyakova et al., OOPSLA 2020).
--
-- A form says what its value goes on to: `next` is what follows the value, `back` what follows a return, and an error
-- ends the whole task, whatever follows. Each form of the tree has its line in `expr_runs`, `stmt_runs`, `item_runs` or
-- `piece_runs`.
use Rattle.std.specs.Prelude.{◌≡◌, ℕ, ℤ, pos, zero, suc, ◌+◌, List, [], ◌∷◌, ◌++◌, map, Bool, true, false, nat_lt, cond, slice_get, get_or, take, Option, Some, None, codes}
use Rattle.jl_model.specs.declared.limits.TheConstants.{MOST_OPEN_CALLS}
use Rattle.jl_model.specs.declared.ty.Ty.{Ty}
use Rattle.jl_model.specs.declared.ty.Written.{Written}
use Rattle.jl_model.specs.Bindings.{bindings as bindings_of}
use Rattle.jl_program.specs.declared.value.Value.{Value}
use Rattle.jl_program.specs.declared.value.Value.TheVariants as V
use Rattle.jl_calculus.specs.declared.history.Event.{Event}
use Rattle.jl_calculus.specs.declared.history.TraceItem.{TraceItem}
use Rattle.jl_calculus.specs.declared.history.TraceItem.TheVariants.{Look, Def, Del, Spawn, Fetch, WorldFull, TaskFull, Absent}
use Rattle.jl_program.specs.declared.choice.Choice.{Choice}
use Rattle.jl_program.specs.declared.choice.Choice.TheVariants as C
use Rattle.jl_calculus.specs.declared.history.Outcome.{Outcome}
use Rattle.jl_calculus.specs.declared.history.Outcome.TheVariants as O
use Rattle.jl_program.specs.declared.fault.Fault.TheVariants.{NoMethod, Ambiguous, NotBool, NotTask, TaskFailed, NoSuchMethod, FuelSpent, StackLimit, WorldLimit, TaskLimit}
use Rattle.jl_program.specs.declared.tree.Expr.{Expr}
use Rattle.jl_program.specs.declared.tree.Stmt.{Stmt}
use Rattle.jl_program.specs.declared.tree.Item.{Item}
use Rattle.jl_program.specs.declared.tree.Piece.{Piece}
use Rattle.jl_program.specs.declared.tree.Expr.TheOpen.{Expr-F, Stmt-F, Item-F, Piece-F}
use Rattle.jl_program.specs.declared.tree.Expr.TheOpen as F
use Rattle.jl_program.specs.declared.tree.Expr.TheFolds.{rec-Expr, rec-Stmt, rec-Item, rec-Piece}
use Rattle.jl_program.specs.declared.tree.Expr.TheVariants as E
use Rattle.jl_program.specs.declared.tree.Delete.{Delete}
use Rattle.jl_program.specs.declared.tree.Site.{Site}
use Rattle.jl_program.specs.declared.tree.Start.{Start}
use Rattle.jl_program.specs.declared.tree.Program.{Program}
use Rattle.jl_program.specs.Meaning.{datum, value_of}
use Rattle.jl_program.specs.Prelude.{prelude_count}
use Rattle.jl_program.specs.Scope.{all_types, types_of}
use Rattle.jl_program.specs.Text.{value_text}
use Rattle.jl_program.specs.TypeOf.{type_of}
use Rattle.jl_calculus.specs.Answers.{Answer}
use Rattle.jl_calculus.specs.Host.{host_meaning}
use Rattle.jl_calculus.specs.Kept.{Places, Keeps}
use Rattle.jl_calculus.specs.Operations.{field_of, part_of, make_tuple, make_written, make_inferred, test_type, test_order, test_same}
use Rattle.jl_calculus.specs.World.{site_of, Selects}

-- what a task asks of the others: the newest world, a definition of a site, a deletion at a place, a task from a start, and the outcome
-- of a task
pub data Question : Type 0 where
  a_look : Question
  a_definition : ℕ → Question
  a_deletion : ℕ → Question
  a_spawn : Start → Question
  a_fetch : ℕ → Question

-- What a run is over: the program, the events, the places of the cache, if they are asked of, the fuel, and a question at
-- which it may stop where nothing is left of its trace, if there is one.
pub record Setting : Type 0 where
  pub program : Program
  pub events : List Event
  pub places : Option Places
  pub fuel : ℕ
  pub until : Option Question

-- a run to its end
abbrev pub setting_of : Program → List Event → Option Places → ℕ → Setting
setting_of P es places fuel = record { program = P; events = es; places = places; fuel = fuel; until = None }

-- whether a run may stop at a question
abbrev pub halts : Option Question → Question → Type 0
halts None q = ⊥
halts (Some p) q = p ≡ q

-- the values of the slots, the types of the static parameters, what is left of the trace, the calls made, the output,
-- and the starts of the tasks that were spawned
pub record State : Type 0 where
  pub env : List Value
  pub bindings : List Ty
  pub left : List TraceItem
  pub calls : ℕ
  pub out : List ℕ
  pub starts : List Start

abbrev pub with_scope : State → List Value → List Ty → State
with_scope s env bindings = record { env = env; bindings = bindings; left = s.left; calls = s.calls; out = s.out; starts = s.starts }

abbrev pub with_env : State → List Value → State
with_env s env = record { env = env; bindings = s.bindings; left = s.left; calls = s.calls; out = s.out; starts = s.starts }

abbrev pub with_left : State → List TraceItem → State
with_left s left = record { env = s.env; bindings = s.bindings; left = left; calls = s.calls; out = s.out; starts = s.starts }

abbrev pub with_calls : State → ℕ → State
with_calls s calls = record { env = s.env; bindings = s.bindings; left = s.left; calls = calls; out = s.out; starts = s.starts }

abbrev pub prints : State → List ℕ → State
prints s text = record { env = s.env; bindings = s.bindings; left = s.left; calls = s.calls; out = s.out ++ text; starts = s.starts }

abbrev pub with_start : State → Start → State
with_start s start = record { env = s.env; bindings = s.bindings; left = s.left; calls = s.calls; out = s.out; starts = s.starts ++ start ∷ [] }

-- the slots where this one is bound: those before it, and then it
abbrev pub bound_at : ℕ → Value → List Value → List Value
bound_at slot v env = take slot env ++ v ∷ []

abbrev pub binds : State → ℕ → Value → State
binds s slot v = with_env s (bound_at slot v s.env)

-- the start of a task that is spawned here: it sees what its place sees
abbrev pub start_at : ℕ → ℕ → State → Start
start_at place w s = record { spawn = place; env = map datum s.env; bindings = s.bindings; world = w }

abbrev pub newline : Bool → List ℕ
newline true = codes "\n"
newline false = []

-- a number as an operation of the prelude sees it
abbrev pub number_of : Value → ℤ
number_of (V.Int n) = n
number_of (V.Bool true) = pos 1
number_of (V.Bool false) = pos 0
number_of V.Nothing = pos 0
number_of (V.Task n) = pos 0
number_of (V.Tuple c) = pos 0
number_of (V.Struct c) = pos 0

-- what an operation of the prelude gives for its arguments; a number that is not there is 0
abbrev pub operates : ℕ → List Value → Outcome
operates operation vs = host_meaning operation (number_of (get_or vs 0 V.Nothing)) (number_of (get_or vs 1 V.Nothing))

-- what a site does: an operation of the prelude, or code with its signature
pub data Body : Type 0 where
  operation : ℕ → Body
  code : Written → Expr → Body

abbrev pub code_of : Option Site → Body
code_of None = code (record { vars = []; parts = [] }) E.Nothing
code_of (Some site) = code site.sig site.body

abbrev pub body_of : Program → ℕ → Body
body_of P site = cond (nat_lt site prelude_count) (operation site) (code_of (slice_get P.sites site))

-- the function of a deletion place
abbrev pub function_of_place : Option Delete → ℕ
function_of_place None = 0
function_of_place (Some place) = place.function

-- the function of which a deletion place deletes methods; it is 0 where there is no such place
abbrev pub deleted_function : Program → ℕ → ℕ
deleted_function P place = function_of_place (slice_get P.deletes place)

abbrev pub Then : Type 1
Then = Value → State → Type 0

-- how a part runs: its world, the state, what follows a return and what follows its value
abbrev pub Runs : Type 1
Runs = ℕ → State → Then → Then → Type 0

-- how an item runs, which looks for its own world
abbrev pub ItemRuns : Type 1
ItemRuns = State → Then → Then → Type 0

-- how a printed piece runs: its world, the state, what follows a return and what follows its text
abbrev pub PieceRuns : Type 1
PieceRuns = ℕ → State → Then → (List ℕ → State → Type 0) → Type 0

-- a call of a function in a world, and what follows its value
abbrev pub Caller : Type 1
Caller = ℕ → List Value → ℕ → State → Then → Type 0

-- a choice between two facts
abbrev pub either : Bool → Type 0 → Type 0 → Type 0
either true A B = A
either false A B = B

-- parts from left to right, after values that are there
abbrev pub each_runs : {X : Type 0} → (X → Runs) → List X → List Value → ℕ → State → Then → (List Value → State → Type 0) → Type 0
each_runs run [] done w s back next = next done s
each_runs run (x ∷ xs) done w s back next = run x w s back (λ v s1. each_runs run xs (done ++ v ∷ []) w s1 back next)

-- pieces from left to right, after this text: nothing is written before the text of all is there
abbrev pub texts_run : {X : Type 0} → (X → PieceRuns) → List X → List ℕ → ℕ → State → Then → (List ℕ → State → Type 0) → Type 0
texts_run run [] text w s back next = next text s
texts_run run (x ∷ xs) text w s back next = run x w s back (λ t s1. texts_run run xs (text ++ t) w s1 back next)

-- statements of a block one after another, after one that gave this value: the value is the last one's
abbrev pub stmts_run : {X : Type 0} → (X → Runs) → List X → Value → Runs
stmts_run run [] last w s back next = next last s
stmts_run run (x ∷ xs) last w s back next = run x w s back (λ v s1. stmts_run run xs v w s1 back next)

-- items one after another, after one that gave this value: the value is the last one's
abbrev pub items_run : {X : Type 0} → (X → ItemRuns) → List X → Value → ItemRuns
items_run run [] last s back next = next last s
items_run run (x ∷ xs) last s back next = run x s back (λ v s1. items_run run xs v s1 back next)

-- the setting, and what has to hold of an outcome
module _ (g : Setting) (Ends : Outcome → State → Type 0) where
  -- takes a Look
  abbrev pub looks : List TraceItem → State → (ℕ → State → Type 0) → Type 0
  looks (Look w p ∷ rest) s next = next w (with_left s rest)
  looks (Def made p ∷ rest) s next = ⊥
  looks (Spawn child p ∷ rest) s next = ⊥
  looks (Fetch task outcome p ∷ rest) s next = ⊥
  looks (WorldFull p ∷ rest) s next = ⊥
  looks (TaskFull p ∷ rest) s next = ⊥
  looks (Del place p ∷ rest) s next = ⊥
  looks (Absent place p ∷ rest) s next = ⊥
  looks [] s next = halts g.until a_look

  -- takes the Def of a site, or that the world is full
  abbrev pub defines : List TraceItem → ℕ → State → (State → Type 0) → Type 0
  defines (Def made p ∷ rest) site s next = (made ≡ site) × next (with_left s rest)
  defines (WorldFull p ∷ rest) site s next = Ends (O.Error WorldLimit) (with_left s rest)
  defines (Look w p ∷ rest) site s next = ⊥
  defines (Spawn child p ∷ rest) site s next = ⊥
  defines (Fetch task outcome p ∷ rest) site s next = ⊥
  defines (TaskFull p ∷ rest) site s next = ⊥
  defines (Del place p ∷ rest) site s next = ⊥
  defines (Absent place p ∷ rest) site s next = ⊥
  defines [] site s next = halts g.until (a_definition site)

  -- takes the Del of a place, or that nothing stands there to delete, or that the world is full
  abbrev pub deletes : List TraceItem → ℕ → State → (State → Type 0) → Type 0
  deletes (Del made p ∷ rest) place s next = (made ≡ place) × next (with_left s rest)
  deletes (Absent made p ∷ rest) place s next = (made ≡ place) × Ends (O.Error (NoSuchMethod (deleted_function g.program place))) (with_left s rest)
  deletes (WorldFull p ∷ rest) place s next = Ends (O.Error WorldLimit) (with_left s rest)
  deletes (Look w p ∷ rest) place s next = ⊥
  deletes (Def made p ∷ rest) place s next = ⊥
  deletes (Spawn child p ∷ rest) place s next = ⊥
  deletes (Fetch task outcome p ∷ rest) place s next = ⊥
  deletes (TaskFull p ∷ rest) place s next = ⊥
  deletes [] place s next = halts g.until (a_deletion place)

  -- takes the Spawn of a task with this start, or that there is no room for a task
  abbrev pub spawns : List TraceItem → Start → State → Then → Type 0
  spawns (Spawn child p ∷ rest) start s next = next (V.Task child) (with_start (with_left s rest) start)
  spawns (TaskFull p ∷ rest) start s next = Ends (O.Error TaskLimit) (with_left s rest)
  spawns (Del place p ∷ rest) start s next = ⊥
  spawns (Absent place p ∷ rest) start s next = ⊥
  spawns (Look w p ∷ rest) start s next = ⊥
  spawns (Def made p ∷ rest) start s next = ⊥
  spawns (Fetch task outcome p ∷ rest) start s next = ⊥
  spawns (WorldFull p ∷ rest) start s next = ⊥
  spawns [] start s next = halts g.until (a_spawn start)

  -- the value of a task goes on, and where it failed the task that fetches it fails
  abbrev pub fetched : ℕ → Outcome → State → Then → Type 0
  fetched task (O.Value v) s next = next v s
  fetched task (O.Error e) s next = Ends (O.Error (TaskFailed task)) s

  -- takes the Fetch of a task
  abbrev pub fetches : List TraceItem → ℕ → State → Then → Type 0
  fetches (Fetch task outcome p ∷ rest) of s next = (task ≡ of) × fetched task outcome (with_left s rest) next
  fetches (Look w p ∷ rest) of s next = ⊥
  fetches (Def made p ∷ rest) of s next = ⊥
  fetches (Spawn child p ∷ rest) of s next = ⊥
  fetches (WorldFull p ∷ rest) of s next = ⊥
  fetches (TaskFull p ∷ rest) of s next = ⊥
  fetches (Del place p ∷ rest) of s next = ⊥
  fetches (Absent place p ∷ rest) of s next = ⊥
  fetches [] of s next = halts g.until (a_fetch of)

  -- a task is fetched, and another value is refused
  abbrev pub fetches_value : Value → State → Then → Type 0
  fetches_value (V.Task task) s next = fetches s.left task s next
  fetches_value (V.Int n) s next = Ends (O.Error (NotTask (type_of (V.Int n)))) s
  fetches_value (V.Bool b) s next = Ends (O.Error (NotTask (type_of (V.Bool b)))) s
  fetches_value V.Nothing s next = Ends (O.Error (NotTask (type_of V.Nothing))) s
  fetches_value (V.Tuple c) s next = Ends (O.Error (NotTask (type_of (V.Tuple c)))) s
  fetches_value (V.Struct c) s next = Ends (O.Error (NotTask (type_of (V.Struct c)))) s

  -- a condition is a truth value, and another value is refused
  abbrev pub decides : Value → State → (Bool → Type 0) → Type 0
  decides (V.Bool b) s go = go b
  decides (V.Int n) s go = Ends (O.Error (NotBool (type_of (V.Int n)))) s
  decides V.Nothing s go = Ends (O.Error (NotBool (type_of V.Nothing))) s
  decides (V.Task n) s go = Ends (O.Error (NotBool (type_of (V.Task n)))) s
  decides (V.Tuple c) s go = Ends (O.Error (NotBool (type_of (V.Tuple c)))) s
  decides (V.Struct c) s go = Ends (O.Error (NotBool (type_of (V.Struct c)))) s

  -- a value goes on, and an error ends the task
  abbrev pub answers : Outcome → State → Then → Type 0
  answers (O.Value v) s next = next v s
  answers (O.Error e) s next = Ends (O.Error e) s

  -- an operation answers
  abbrev pub operation_runs : Answer → State → Then → Type 0
  operation_runs answer s next = (o : Outcome) × answer o × answers o s next

  -- One layer of the tree, where the parts below it run so.
  module _ (called : Caller) {X I Q T : Type 0} (run : X → Runs) (run_item : I → ItemRuns) (run_piece : Q → PieceRuns) (run_stmt : T → Runs) where
    abbrev pub expr_runs : Expr-F X I Q T → Runs
    expr_runs (F.Int n) w s back next = next (V.Int n) s
    expr_runs (F.Bool b) w s back next = next (V.Bool b) s
    expr_runs F.Nothing w s back next = next V.Nothing s
    expr_runs (F.Local x) w s back next = next (get_or s.env x V.Nothing) s
    expr_runs (F.Call f xs) w s back next = each_runs run xs [] w s back (λ vs s1. called f vs w s1 next)
    expr_runs (F.Latest f xs) w s back next = each_runs run xs [] w s back (λ vs s1. looks s1.left s1 (λ newest s2. called f vs newest s2 next))
    expr_runs (F.Make t xs) w s back next = each_runs run xs [] w s back (λ vs s1. operation_runs (make_written (all_types g.program) s1.bindings t vs) s1 next)
    expr_runs (F.Infer name xs) w s back next = each_runs run xs [] w s back (λ vs s1. operation_runs (make_inferred (all_types g.program) name vs) s1 next)
    expr_runs (F.Parts xs) w s back next = each_runs run xs [] w s back (λ vs s1. operation_runs (make_tuple (all_types g.program) vs) s1 next)
    expr_runs (F.Field a name) w s back next = run a w s back (λ v s1. answers (field_of (all_types g.program) name v) s1 next)
    expr_runs (F.Part a number) w s back next = run a w s back (λ v s1. answers (part_of (all_types g.program) number v) s1 next)
    expr_runs (F.Egal a b negated) w s back next =
        run a w s back (λ u s1. run b w s1 back (λ v s2. operation_runs (test_same negated u v) s2 next))
    expr_runs (F.Isa a t) w s back next = run a w s back (λ v s1. operation_runs (test_type (all_types g.program) s1.bindings v t) s1 next)
    expr_runs (F.Sub t u) w s back next = operation_runs (test_order (all_types g.program) s.bindings t u) s next
    expr_runs (F.If test then_ else_) w s back next =
        run test w s back (λ v s1. decides v s1 (λ b. either b (run then_ w s1 back next) (run else_ w s1 back next)))
    expr_runs (F.And a b) w s back next = run a w s back (λ v s1. decides v s1 (λ t. either t (run b w s1 back next) (next (V.Bool false) s1)))
    expr_runs (F.Or a b) w s back next = run a w s back (λ v s1. decides v s1 (λ t. either t (next (V.Bool true) s1) (run b w s1 back next)))
    -- what a block binds is not there after it
    expr_runs (F.Block xs) w s back next = stmts_run run_stmt xs V.Nothing w s back (λ v s1. next v (with_env s1 s.env))
    -- each statement sees no names and looks for its own world; the code around goes on in its world and with its names
    expr_runs (F.Eval xs) w s back next =
        items_run (λ x s1. run_item x (with_scope s1 [] [])) xs V.Nothing s back (λ v s1. next v (with_scope s1 s.env s.bindings))
    expr_runs (F.Spawn place) w s back next = spawns s.left (start_at place w s) s next
    expr_runs (F.Delete place) w s back next = deletes s.left place s (λ s1. next V.Nothing s1)
    expr_runs (F.Fetch a) w s back next = run a w s back (λ v s1. fetches_value v s1 next)
    expr_runs (F.Print ps line) w s back next = texts_run run_piece ps [] w s back (λ text s1. next V.Nothing (prints s1 (text ++ newline line)))

    abbrev pub stmt_runs : Stmt-F X I Q T → Runs
    stmt_runs (F.Stmt::Bind slot a) w s back next = run a w s back (λ v s1. next v (binds s1 slot v))
    stmt_runs (F.Stmt::Do a) w s back next = run a w s back next
    stmt_runs (F.Return a) w s back next = run a w s back back

    abbrev pub item_runs : Item-F X I Q T → ItemRuns
    item_runs (F.Define site) s back next = looks s.left s (λ w s1. defines s1.left site s1 (λ s2. next V.Nothing s2))
    item_runs (F.Item::Bind slot a) s back next = looks s.left s (λ w s1. run a w s1 back (λ v s2. next v (binds s2 slot v)))
    item_runs (F.Item::Do a) s back next = looks s.left s (λ w s1. run a w s1 back next)

    abbrev pub piece_runs : Piece-F X I Q T → PieceRuns
    piece_runs (F.Text bytes) w s back next = next bytes s
    piece_runs (F.Show a) w s back next = run a w s back (λ v s1. next (value_text g.program v) s1)

  module _ (called : Caller) where
    -- the tree, layer by layer
    abbrev pub runs : Expr → Runs
    runs = rec-Expr Runs ItemRuns PieceRuns Runs (λ X I Q T _ _ _ _. expr_runs called) (λ X I Q T _ _ _ _. item_runs called) (λ X I Q T _ _ _ _. piece_runs called) (λ X I Q T _ _ _ _. stmt_runs called)

    abbrev pub runs_stmt : Stmt → Runs
    runs_stmt = rec-Stmt Runs ItemRuns PieceRuns Runs (λ X I Q T _ _ _ _. expr_runs called) (λ X I Q T _ _ _ _. item_runs called) (λ X I Q T _ _ _ _. piece_runs called) (λ X I Q T _ _ _ _. stmt_runs called)

    abbrev pub runs_item : Item → ItemRuns
    runs_item = rec-Item Runs ItemRuns PieceRuns Runs (λ X I Q T _ _ _ _. expr_runs called) (λ X I Q T _ _ _ _. item_runs called) (λ X I Q T _ _ _ _. piece_runs called) (λ X I Q T _ _ _ _. stmt_runs called)

    abbrev pub runs_piece : Piece → PieceRuns
    runs_piece = rec-Piece Runs ItemRuns PieceRuns Runs (λ X I Q T _ _ _ _. expr_runs called) (λ X I Q T _ _ _ _. item_runs called) (λ X I Q T _ _ _ _. piece_runs called) (λ X I Q T _ _ _ _. stmt_runs called)

  -- a call is counted against the fuel
  abbrev pub counted : State → Type 0 → Type 0
  counted s go = either (nat_lt s.calls g.fuel) go (Ends (O.Error (FuelSpent g.fuel)) s)

  -- a choice, and what it leads to
  abbrev pub chosen : Choice → ℕ → List Ty → ℕ → State → (ℕ → Type 0) → Type 0
  chosen (C.Method d) f ts w s go = go (site_of g.events d)
  chosen C.None f ts w s go = Ends (O.Error (NoMethod f ts w)) s
  chosen (C.Ambiguous a b) f ts w s go = Ends (O.Error (Ambiguous f ts a b)) s

  -- an operation of the prelude answers, and code goes on with the values of its signature's variables
  abbrev pub performs : Body → List Value → State → Then → (List Ty → Expr → Type 0) → Type 0
  performs (operation n) vs s next go = answers (operates n vs) s next
  performs (code sig e) vs s next go = go (bindings_of (types_of g.program) sig (map type_of vs)) e

  -- a call where so many more may be open
  abbrev pub calls : ℕ → Caller
  calls zero f vs w s next = counted s (Ends (O.Error StackLimit) (with_calls s (s.calls + 1)))
  calls (suc room) f vs w s next =
      counted s ((c : Choice) × Selects g.program g.events f (map type_of vs) w c × Keeps g.program g.events g.places f (map type_of vs) w
      × chosen c f (map type_of vs) w (with_calls s (s.calls + 1)) (λ site.
      performs (body_of g.program site) vs (with_calls s (s.calls + 1)) next (λ bindings e.
      runs (calls room) e w (with_scope (with_calls s (s.calls + 1)) vs bindings)
      (λ v s1. next v (with_scope s1 s.env s.bindings)) (λ v s1. next v (with_scope s1 s.env s.bindings)))))

-- how many calls of a task may be open
abbrev pub open_calls : ℕ
open_calls = MOST_OPEN_CALLS

-- the outcome is this one, with nothing left of the trace
pub record IsEnd (outcome : Outcome) (output : List ℕ) (made : ℕ) (spawned : List Start) (got : Outcome) (s : State) : Type 0 where
  pub is : got ≡ outcome
  pub whole : s.left ≡ []
  pub printed : s.out ≡ output
  pub counted_calls : s.calls ≡ made
  pub spawned_tasks : s.starts ≡ spawned

-- nothing is there yet but the trace
abbrev pub first_state : List TraceItem → State
first_state trace = record { env = []; bindings = []; left = trace; calls = 0; out = []; starts = [] }

-- what a task sees at its start
abbrev pub task_state : Start → List TraceItem → State
task_state start trace = record { env = map value_of start.env; bindings = start.bindings; left = trace; calls = 0; out = []; starts = [] }

-- the expression of a spawn place runs from a start; there is no run at a place that is not there
abbrev pub task_runs : (g : Setting) → (Outcome → State → Type 0) → Option Expr → Start → List TraceItem → Type 0
task_runs g Ends None start trace = ⊥
task_runs g Ends (Some e) start trace =
    runs g Ends (calls g Ends open_calls) e start.world (task_state start trace) (λ v s. Ends (O.Value v) s) (λ v s. Ends (O.Value v) s)

-- where a task starts: the root at the top of the program, another task at the expression of its place
abbrev pub starts_at : (g : Setting) → (Outcome → State → Type 0) → Option Start → List TraceItem → Type 0
starts_at g Ends None trace =
    items_run (runs_item g Ends (calls g Ends open_calls)) g.program.top V.Nothing (first_state trace) (λ v s. Ends (O.Value v) s) (λ v s. Ends (O.Value v) s)
starts_at g Ends (Some start) trace = task_runs g Ends (slice_get g.program.spawns start.spawn) start trace

-- a task's run: where it started, what it saw and did, its outcome, its output, its calls and the tasks that it spawned
pub record Run (g : Setting) (start : Option Start) (trace : List TraceItem) (outcome : Outcome) (output : List ℕ) (made : ℕ) (spawned : List Start) : Type 0 where
  pub ran : starts_at g (IsEnd outcome output made spawned) start trace

-- A run of this trace comes to a question: it may stop there, whatever its end were to be. A run that ends does not count, since
-- it has one end.
abbrev pub Comes : Program → List Event → Option Places → ℕ → Option Start → List TraceItem → Question → Type 0
Comes P es places fuel start trace question =
    (outcome : Outcome) (output : List ℕ) (made : ℕ) (spawned : List Start)
    → Run (record { program = P; events = es; places = places; fuel = fuel; until = Some question }) start trace outcome output made spawned
