-- The rules of single forms, computed. Each is an equation: the form runs exactly as is said here.
use Rattle.std.proofs.Common.{◌≡◌, ◌∙◌, refl, subst, ℕ, pos, Bool, true, false, List, [], ◌∷◌, arith}
use Rattle.jl_program.specs.declared.tree.Expr.{Expr}
use Rattle.jl_program.specs.declared.tree.Stmt.{Stmt}
use Rattle.jl_program.specs.declared.tree.Expr.TheOpen as F
use Rattle.jl_program.specs.declared.tree.Expr.TheVariants as E
use Rattle.jl_program.specs.declared.tree.Expr.TheViews as X
use Rattle.jl_program.specs.declared.tree.Stmt.TheVariants as S
use Rattle.jl_program.specs.declared.tree.Item.TheVariants as I
use Rattle.jl_program.specs.declared.tree.Start.{Start}
use Rattle.jl_program.specs.declared.value.Value.TheVariants as V
use Rattle.jl_program.specs.declared.fault.Fault.TheVariants as Fa
use Rattle.jl_program.specs.Prelude.{int64}
use Rattle.jl_calculus.specs.declared.history.Outcome.{Outcome}
use Rattle.jl_calculus.specs.declared.history.Outcome.TheVariants as O
use Rattle.jl_calculus.specs.declared.history.TraceItem.{TraceItem}
use Rattle.jl_calculus.specs.declared.history.TraceItem.TheVariants.{Look, Def, Del, Spawn, Fetch, WorldFull, TaskFull, Absent}
use Rattle.jl_calculus.specs.Run.{Setting, State, Then, Caller, with_env, with_scope, binds, decides, either, runs, runs_stmt, stmts_run, deleted_function, fetched, fetches_value}
use Rattle.jl_calculus.proofs.Forms.{form_is, stmt_form_is, item_form_is}

module _ (g : Setting) (Ends : Outcome → State → Type 0) (called : Caller) (w : ℕ) (back next : Then) where
  abbrev Rs : Expr → State → Then → Type 0
  Rs e s after = runs g Ends called e w s back after

  -- the literals and a slot
  int : (n : ℕ) (s : State) (after : Then) → Rs (E.Int (pos n)) s after ≡ after (V.Int (pos n)) s
  int n s after = form_is g Ends called (E.Int (pos n)) (F.Int (pos n)) (X.outs-Int (pos n)) w s back after

  truth : (b : Bool) (s : State) (after : Then) → Rs (E.Bool b) s after ≡ after (V.Bool b) s
  truth b s after = form_is g Ends called (E.Bool b) (F.Bool b) (X.outs-Bool b) w s back after

  -- `1 ? a : b` is refused, and neither branch runs
  if_number : (a b : Expr) (s : State) → Rs (X.If (E.Int (pos 1)) a b) s next ≡ Ends (O.Error (Fa.NotBool int64)) s
  if_number a b s =
      form_is g Ends called (X.If (E.Int (pos 1)) a b) (F.If (E.Int (pos 1)) a b) (X.outs-If (E.Int (pos 1)) a b) w s back next
      ∙ int 1 s (λ v s1. decides g Ends v s1 (λ t. either t (Rs a s1 next) (Rs b s1 next)))

  -- one branch runs
  if_true : (a b : Expr) (s : State) → Rs (X.If (E.Bool true) a b) s next ≡ Rs a s next
  if_true a b s =
      form_is g Ends called (X.If (E.Bool true) a b) (F.If (E.Bool true) a b) (X.outs-If (E.Bool true) a b) w s back next
      ∙ truth true s (λ v s1. decides g Ends v s1 (λ t. either t (Rs a s1 next) (Rs b s1 next)))

  if_false : (a b : Expr) (s : State) → Rs (X.If (E.Bool false) a b) s next ≡ Rs b s next
  if_false a b s =
      form_is g Ends called (X.If (E.Bool false) a b) (F.If (E.Bool false) a b) (X.outs-If (E.Bool false) a b) w s back next
      ∙ truth false s (λ v s1. decides g Ends v s1 (λ t. either t (Rs a s1 next) (Rs b s1 next)))

  -- `false && a`: the right side does not run; `true && a`: its value is that of the right side, whatever it is
  and_false : (a : Expr) (s : State) → Rs (X.And (E.Bool false) a) s next ≡ next (V.Bool false) s
  and_false a s =
      form_is g Ends called (X.And (E.Bool false) a) (F.And (E.Bool false) a) (X.outs-And (E.Bool false) a) w s back next
      ∙ truth false s (λ v s1. decides g Ends v s1 (λ t. either t (Rs a s1 next) (next (V.Bool false) s1)))

  and_true : (a : Expr) (s : State) → Rs (X.And (E.Bool true) a) s next ≡ Rs a s next
  and_true a s =
      form_is g Ends called (X.And (E.Bool true) a) (F.And (E.Bool true) a) (X.outs-And (E.Bool true) a) w s back next
      ∙ truth true s (λ v s1. decides g Ends v s1 (λ t. either t (Rs a s1 next) (next (V.Bool false) s1)))

  or_true : (a : Expr) (s : State) → Rs (X.Or (E.Bool true) a) s next ≡ next (V.Bool true) s
  or_true a s =
      form_is g Ends called (X.Or (E.Bool true) a) (F.Or (E.Bool true) a) (X.outs-Or (E.Bool true) a) w s back next
      ∙ truth true s (λ v s1. decides g Ends v s1 (λ t. either t (next (V.Bool true) s1) (Rs a s1 next)))

  or_number : (a : Expr) (s : State) → Rs (X.Or (E.Int (pos 1)) a) s next ≡ Ends (O.Error (Fa.NotBool int64)) s
  or_number a s =
      form_is g Ends called (X.Or (E.Int (pos 1)) a) (F.Or (E.Int (pos 1)) a) (X.outs-Or (E.Int (pos 1)) a) w s back next
      ∙ int 1 s (λ v s1. decides g Ends v s1 (λ t. either t (next (V.Bool true) s1) (Rs a s1 next)))

  -- `begin a = 1; a end` with no slot around it: its value is 1, and the slot is gone
  abbrev bare : List TraceItem → State
  bare left = record { env = []; bindings = []; left = left; calls = 0; out = []; starts = [] }

  block_binds : (left : List TraceItem) → Rs (X.Block (S.Bind 0 (E.Int (pos 1)) ∷ S.Do (E.Local 0) ∷ [])) (bare left) next ≡ next (V.Int (pos 1)) (bare left)
  block_binds left =
      let s = bare left in
      let xs : List Stmt = S.Do (E.Local 0) ∷ [] in
      let after : Then = λ v s1. next v (with_env s1 []) in
      let rest : Then = λ v s1. stmts_run (runs_stmt g Ends called) xs v w s1 back after in
      let bound : State = binds s 0 (V.Int (pos 1)) in
      form_is g Ends called (X.Block (S.Bind 0 (E.Int (pos 1)) ∷ xs)) (F.Block (S.Bind 0 (E.Int (pos 1)) ∷ xs)) (X.outs-Block (S.Bind 0 (E.Int (pos 1)) ∷ xs)) w s back next
      ∙ stmt_form_is g Ends called (S.Bind 0 (E.Int (pos 1))) (F.Stmt::Bind 0 (E.Int (pos 1))) (X.outs-Stmt::Bind 0 (E.Int (pos 1))) w s back rest
      ∙ int 1 s (λ v s1. rest v (binds s1 0 v))
      ∙ stmt_form_is g Ends called (S.Do (E.Local 0)) (F.Stmt::Do (E.Local 0)) (X.outs-Stmt::Do (E.Local 0)) w bound back after
      ∙ form_is g Ends called (E.Local 0) (F.Local 0) (X.outs-Local 0) w bound back after

  -- `return 1` in a block: what follows it in the block does not run
  block_returns : (xs : List Stmt) (s : State) → Rs (X.Block (S.Return (E.Int (pos 1)) ∷ xs)) s next ≡ back (V.Int (pos 1)) s
  block_returns xs s =
      let rest : Then = λ v s1. stmts_run (runs_stmt g Ends called) xs v w s1 back (λ u s2. next u (with_env s2 s.env)) in
      form_is g Ends called (X.Block (S.Return (E.Int (pos 1)) ∷ xs)) (F.Block (S.Return (E.Int (pos 1)) ∷ xs)) (X.outs-Block (S.Return (E.Int (pos 1)) ∷ xs)) w s back next
      ∙ stmt_form_is g Ends called (S.Return (E.Int (pos 1))) (F.Return (E.Int (pos 1))) (X.outs-Return (E.Int (pos 1))) w s back rest
      ∙ int 1 s back

  -- an empty block gives `nothing`
  block_empty : (s : State) → Rs (X.Block []) s next ≡ next V.Nothing s
  block_empty s = form_is g Ends called (X.Block []) (F.Block []) (X.outs-Block []) w s back next

  -- a task that is spawned after `begin a = 1 end` sees no `a`
  abbrev start : ℕ → Start
  start place = record { spawn = place; env = []; bindings = []; world = w }

  spawns_task : (place child p : ℕ) (left : List TraceItem)
      → Rs (E.Spawn place) (bare (Spawn child p ∷ left)) next ≡ next (V.Task child) (record { env = []; bindings = []; left = left; calls = 0; out = []; starts = start place ∷ [] })
  spawns_task place child p left = form_is g Ends called (E.Spawn place) (F.Spawn place) (X.outs-Spawn place) w (bare (Spawn child p ∷ left)) back next

  spawns_none : (place p : ℕ) (left : List TraceItem) → Rs (E.Spawn place) (bare (TaskFull p ∷ left)) next ≡ Ends (O.Error Fa.TaskLimit) (bare left)
  spawns_none place p left = form_is g Ends called (E.Spawn place) (F.Spawn place) (X.outs-Spawn place) w (bare (TaskFull p ∷ left)) back next

  -- a look is no answer to a spawn
  spawn_alone : (place v p : ℕ) (left : List TraceItem) → Rs (E.Spawn place) (bare (Look v p ∷ left)) next → ⊥
  spawn_alone place v p left h = subst (λ (A : Type 0). A) (form_is g Ends called (E.Spawn place) (F.Spawn place) (X.outs-Spawn place) w (bare (Look v p ∷ left)) back next) h

  -- `Base.delete_method(which(f, T))` gives `nothing` where the methods of its place are deleted, and ends the task where there are none,
  -- and where the world is full
  deletes_methods : (place p : ℕ) (left : List TraceItem) → Rs (E.Delete place) (bare (Del place p ∷ left)) next ≡ ((◌≡◌ {A = ℕ} place place) × next V.Nothing (bare left))
  deletes_methods place p left = form_is g Ends called (E.Delete place) (F.Delete place) (X.outs-Delete place) w (bare (Del place p ∷ left)) back next

  deletes_none : (place p : ℕ) (left : List TraceItem)
      → Rs (E.Delete place) (bare (Absent place p ∷ left)) next ≡ ((◌≡◌ {A = ℕ} place place) × Ends (O.Error (Fa.NoSuchMethod (deleted_function g.program place))) (bare left))
  deletes_none place p left = form_is g Ends called (E.Delete place) (F.Delete place) (X.outs-Delete place) w (bare (Absent place p ∷ left)) back next

  delete_full : (place p : ℕ) (left : List TraceItem) → Rs (E.Delete place) (bare (WorldFull p ∷ left)) next ≡ Ends (O.Error Fa.WorldLimit) (bare left)
  delete_full place p left = form_is g Ends called (E.Delete place) (F.Delete place) (X.outs-Delete place) w (bare (WorldFull p ∷ left)) back next

  -- a deletion at another place is no answer
  other_deletion : (p : ℕ) (left : List TraceItem) → Rs (E.Delete 0) (bare (Del 1 p ∷ left)) next → ⊥
  other_deletion p left h =
      let e = (subst (λ (A : Type 0). A) (form_is g Ends called (E.Delete 0) (F.Delete 0) (X.outs-Delete 0) w (bare (Del 1 p ∷ left)) back next) h).0 in
      absurd (omega (arith, e))

  -- `fetch(1)`
  fetch_number : (s : State) → Rs (X.Fetch (E.Int (pos 1))) s next ≡ Ends (O.Error (Fa.NotTask int64)) s
  fetch_number s =
      form_is g Ends called (X.Fetch (E.Int (pos 1))) (F.Fetch (E.Int (pos 1))) (X.outs-Fetch (E.Int (pos 1))) w s back next
      ∙ int 1 s (λ v s1. fetches_value g Ends v s1 next)

  -- `fetch(t)` of a task that failed, and of one that gave 7
  abbrev with_task : ℕ → List TraceItem → State
  with_task t left = record { env = V.Task t ∷ []; bindings = []; left = left; calls = 0; out = []; starts = [] }

  abbrev fetched_is : (t u p : ℕ) → Outcome → List TraceItem → Type 0
  fetched_is t u p o left = (u ≡ t) × fetched g Ends u o (with_task t left) next

  fetch_task : (t u p : ℕ) (o : Outcome) (left : List TraceItem) → Rs (X.Fetch (E.Local 0)) (with_task t (Fetch u o p ∷ left)) next ≡ fetched_is t u p o left
  fetch_task t u p o left =
      let s = with_task t (Fetch u o p ∷ left) in
      form_is g Ends called (X.Fetch (E.Local 0)) (F.Fetch (E.Local 0)) (X.outs-Fetch (E.Local 0)) w s back next
      ∙ form_is g Ends called (E.Local 0) (F.Local 0) (X.outs-Local 0) w s back (λ v s1. fetches_value g Ends v s1 next)

  failed_task : (p : ℕ) (left : List TraceItem) → fetched_is 1 1 p (O.Error Fa.DivideError) left ≡ ((◌≡◌ {A = ℕ} 1 1) × Ends (O.Error (Fa.TaskFailed 1)) (with_task 1 left))
  failed_task p left = refl

  seven : (p : ℕ) (left : List TraceItem) → fetched_is 1 1 p (O.Value (V.Int (pos 7))) left ≡ ((◌≡◌ {A = ℕ} 1 1) × next (V.Int (pos 7)) (with_task 1 left))
  seven p left = refl

  -- the outcome of another task is no answer
  other_task : (p : ℕ) (o : Outcome) (left : List TraceItem) → Rs (X.Fetch (E.Local 0)) (with_task 1 (Fetch 2 o p ∷ left)) next → ⊥
  other_task p o left h = let e = (subst (λ (A : Type 0). A) (fetch_task 1 2 p o left) h).0 in absurd (omega (arith, e))

  -- `Base.invokelatest(f)`: the call is made in the world that is seen, and the code around stays in its own
  latest : (f v p : ℕ) (left : List TraceItem) → Rs (X.Latest f []) (bare (Look v p ∷ left)) next ≡ called f [] v (bare left) next
  latest f v p left = form_is g Ends called (X.Latest f []) (F.Latest f []) (X.outs-Latest f []) w (bare (Look v p ∷ left)) back next

  -- `@eval f() = 1`, with the definition at site 14, in a body with one slot: the slots are there again afterwards
  abbrev in_body : List TraceItem → State
  in_body left = record { env = V.Int (pos 5) ∷ []; bindings = int64 ∷ []; left = left; calls = 1; out = []; starts = [] }

  eval_defines : (v p q : ℕ) (left : List TraceItem)
      → Rs (X.Eval (I.Define 14 ∷ [])) (in_body (Look v p ∷ Def 14 q ∷ left)) next ≡ ((◌≡◌ {A = ℕ} 14 14) × next V.Nothing (in_body left))
  eval_defines v p q left =
      let s = in_body (Look v p ∷ Def 14 q ∷ left) in
      let inside : State = with_scope s [] [] in
      form_is g Ends called (X.Eval (I.Define 14 ∷ [])) (F.Eval (I.Define 14 ∷ [])) (X.outs-Eval (I.Define 14 ∷ [])) w s back next
      ∙ item_form_is g Ends called (I.Define 14) (F.Define 14) (X.outs-Define 14) inside back (λ u s1. next u (with_scope s1 (V.Int (pos 5) ∷ []) (int64 ∷ [])))

  -- an evaluated statement runs in the world that it sees, and sees no slot
  eval_runs : (e : Expr) (v p : ℕ) (left : List TraceItem)
      → Rs (X.Eval (I.Do e ∷ [])) (in_body (Look v p ∷ left)) next
      ≡ runs g Ends called e v (with_scope (in_body left) [] []) back (λ u s1. next u (with_scope s1 (V.Int (pos 5) ∷ []) (int64 ∷ [])))
  eval_runs e v p left =
      let s = in_body (Look v p ∷ left) in
      let inside : State = with_scope s [] [] in
      form_is g Ends called (X.Eval (I.Do e ∷ [])) (F.Eval (I.Do e ∷ [])) (X.outs-Eval (I.Do e ∷ [])) w s back next
      ∙ item_form_is g Ends called (I.Do e) (F.Item::Do e) (X.outs-Item::Do e) inside back (λ u s1. next u (with_scope s1 (V.Int (pos 5) ∷ []) (int64 ∷ [])))

  -- where the world is full the evaluated definition ends the task
  eval_full : (v p q : ℕ) (left : List TraceItem)
      → Rs (X.Eval (I.Define 14 ∷ [])) (in_body (Look v p ∷ WorldFull q ∷ left)) next ≡ Ends (O.Error Fa.WorldLimit) (with_scope (in_body left) [] [])
  eval_full v p q left =
      let s = in_body (Look v p ∷ WorldFull q ∷ left) in
      let inside : State = with_scope s [] [] in
      form_is g Ends called (X.Eval (I.Define 14 ∷ [])) (F.Eval (I.Define 14 ∷ [])) (X.outs-Eval (I.Define 14 ∷ [])) w s back next
      ∙ item_form_is g Ends called (I.Define 14) (F.Define 14) (X.outs-Define 14) inside back (λ u s1. next u (with_scope s1 (V.Int (pos 5) ∷ []) (int64 ∷ [])))
