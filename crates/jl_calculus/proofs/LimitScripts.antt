-- Whole scripts that end at a limit. The limit of open calls is reached by a lemma over any limit, so that nothing is counted.
use Rattle.std.proofs.Common.{◌≡◌, refl, subst, ℕ, zero, suc, ◌+◌, ◌<◌, pos, Bool, true, nat_lt, codes, List, [], ◌∷◌, ◌++◌, None, arith}
use Rattle.std.specs.Fmt.{digits}
use Rattle.jl_model.specs.declared.ty.Ty.TheVariants as T
use Rattle.jl_program.specs.declared.choice.Choice.TheVariants as C
use Rattle.jl_program.specs.declared.fault.Fault.TheVariants as Fa
use Rattle.jl_program.specs.declared.tree.Expr.{Expr}
use Rattle.jl_program.specs.declared.tree.Expr.TheOpen as F
use Rattle.jl_program.specs.declared.tree.Expr.TheVariants as E
use Rattle.jl_program.specs.declared.tree.Expr.TheViews as X
use Rattle.jl_program.specs.declared.tree.Item.TheVariants as I
use Rattle.jl_program.specs.declared.tree.Program.{Program}
use Rattle.jl_program.specs.declared.tree.Site.{Site}
use Rattle.jl_program.specs.declared.value.Value.{Value}
use Rattle.jl_program.specs.declared.value.Value.TheVariants as V
use Rattle.jl_program.specs.Prelude.{plain, int64, prelude_functions, prelude_sites}
use Rattle.jl_program.specs.Scope.{types_of}
use Rattle.jl_program.proofs.FirstChoices.{only_choice, any_applies}
use Rattle.jl_calculus.specs.declared.history.Event.{Event}
use Rattle.jl_calculus.specs.declared.history.Event.TheVariants as Ev
use Rattle.jl_calculus.specs.declared.history.Outcome.{Outcome}
use Rattle.jl_calculus.specs.declared.history.Outcome.TheVariants as O
use Rattle.jl_calculus.specs.declared.history.TraceItem.{TraceItem}
use Rattle.jl_calculus.specs.declared.history.TraceItem.TheVariants.{Look, Def, WorldFull, TaskFull}
use Rattle.jl_calculus.specs.Legal.{text_of}
use Rattle.jl_calculus.specs.Run.{Setting, setting_of, State, Then, IsEnd, Caller, Run, either, calls, runs_item, binds, first_state, open_calls, with_scope}
use Rattle.jl_calculus.specs.World.{Selects}
use Rattle.jl_calculus.proofs.Forms.{form_is, item_form_is, int_runs, local_runs, call_runs, define_runs, do_runs}
use Rattle.jl_calculus.proofs.WorldScripts.{made, bare}
use Rattle.jl_calculus.proofs.SelectLemmas.{selects_plain}

-- ---- `f(x) = f(x)`, and then `f(1)`

abbrev endless : Site
endless = record { function = 12; sig = plain (T.Any ∷ []); body = X.Call 12 (E.Local 0 ∷ []) }

abbrev deep : Program
deep = record { decls = []; functions = prelude_functions ++ codes "f" ∷ []; sites = prelude_sites ++ endless ∷ []; spawns = []; deletes = []; top = I.Define 14 ∷ I.Do (X.Call 12 (E.Int (pos 1) ∷ [])) ∷ [] }

abbrev defined_f : List Event
defined_f = Ev.Begin 10000000 ∷ Ev.Def 0 14 ∷ []

f_selected : Selects deep defined_f 12 (int64 ∷ []) 15 (C.Method 15)
f_selected = selects_plain deep refl defined_f 12 (int64 ∷ []) 15 (C.Method 15) (only_choice (types_of deep) (record { number = 15; sig = endless.sig }) (int64 ∷ []) (any_applies (types_of deep)))

abbrev one : List Value
one = V.Int (pos 1) ∷ []

-- after so many calls, with these slots
abbrev at_call : List Value → ℕ → State
at_call env count = record { env = env; bindings = []; left = []; calls = count; out = []; starts = [] }

module _ (Ends : Outcome → State → Type 0) where
  abbrev g : Setting
  g = setting_of deep defined_f None 10000000

  enough : (count : ℕ) (A B : Type 0) → count < 10000000 → A → either (nat_lt count 10000000) A B
  enough count A B l a = let p : true ≡ nat_lt count 10000000 = grind (arith, l) in subst (λ (b : Bool). either b A B) p a

  -- where so many more calls may be open, all of them are made, and one more
  all_open : (room count : ℕ) (env : List Value) (next : Then) → count + room < 10000000
      → ((inside : List Value) → Ends (O.Error Fa.StackLimit) (at_call inside (count + room + 1))) → calls g Ends room 12 one 15 (at_call env count) next
  all_open zero count env next l end =
      enough count _ _ (omega (arith, l)) (let e : count + 0 + 1 ≡ count + 1 = omega arith in subst (λ (n : ℕ). Ends (O.Error Fa.StackLimit) (at_call env n)) e (end env))
  all_open (suc room) count env next l end =
      let within : Caller = calls g Ends room in
      let inner : Then = λ v s. next v (with_scope s env []) in
      let inside : State = at_call one (count + 1) in
      let e : count + suc room + 1 ≡ count + 1 + room + 1 = omega arith in
      let more : calls g Ends room 12 one 15 inside inner = all_open room (count + 1) one inner (omega (arith, l)) (λ slots. subst (λ (n : ℕ). Ends (O.Error Fa.StackLimit) (at_call slots n)) e (end slots)) in
      let argument = local_runs g Ends within 0 15 inside inner (λ v s. within 12 (v ∷ []) 15 s inner) more in
      let body = call_runs g Ends within 12 (E.Local 0 ∷ []) 15 inside inner inner argument in
      enough count _ _ (omega (arith, l)) (C.Method 15, f_selected, tt, body)

abbrev overflow : Outcome
overflow = O.Error Fa.StackLimit

abbrev deep_trace : List TraceItem
deep_trace = Look 14 1 ∷ Def 14 1 ∷ Look 15 2 ∷ []

-- 100,000 calls are open, and the next one is refused: it is counted, so the task made 100,001
stack_overflow : Run (setting_of deep defined_f None 10000000) None deep_trace overflow [] 100001 []
stack_overflow =
    let Ends : Outcome → State → Type 0 = IsEnd overflow [] 100001 [] in
    let h : Setting = setting_of deep defined_f None 10000000 in
    let called : Caller = calls h Ends open_calls in
    let end : Then = λ v s. Ends (O.Value v) s in
    let call : Expr = X.Call 12 (E.Int (pos 1) ∷ []) in
    let stop : (slots : List Value) → Ends overflow (at_call slots (0 + 100000 + 1)) = λ slots. record { is = refl; whole = refl; printed = refl; counted_calls = refl; spawned_tasks = refl } in
    let all : calls h Ends 100000 12 one 15 (at_call [] 0) end = all_open Ends 100000 0 [] end (omega arith) stop in
    let argument = int_runs h Ends called (pos 1) 15 (at_call [] 0) end (λ v s. called 12 (v ∷ []) 15 s end) all in
    let value = call_runs h Ends called 12 (E.Int (pos 1) ∷ []) 15 (at_call [] 0) end end argument in
    let second = do_runs h Ends called call (bare (Look 15 2 ∷ []) 0) end end value in
    record { ran = define_runs h Ends called 14 (first_state deep_trace) end (λ v s. runs_item h Ends called (I.Do call) s end end) (refl, second) }

stack_text : text_of deep (defined_f ++ Ev.Done 0 (record { trace = deep_trace; outcome = overflow; output = []; calls = 100001 }) ∷ []) ≡ codes "ERROR: StackOverflowError: 100000 open calls\n"
unfolding digits
stack_text = refl

-- ---- `t = Threads.@spawn 0`, where there is no room for a task

abbrev spawning : Program
spawning = record { decls = []; functions = prelude_functions; sites = prelude_sites; spawns = E.Int (pos 0) ∷ []; deletes = []; top = I.Bind 0 (E.Spawn 0) ∷ [] }

abbrev no_task : Outcome
no_task = O.Error Fa.TaskLimit

task_limit : (es : List Event) (w p q : ℕ) → Run (setting_of spawning es None 10) None (Look w p ∷ TaskFull q ∷ []) no_task [] 0 []
task_limit es w p q =
    let Ends : Outcome → State → Type 0 = IsEnd no_task [] 0 [] in
    let h : Setting = setting_of spawning es None 10 in
    let called : Caller = calls h Ends open_calls in
    let end : Then = λ v s. Ends (O.Value v) s in
    let stop : Ends no_task (bare [] 0) = record { is = refl; whole = refl; printed = refl; counted_calls = refl; spawned_tasks = refl } in
    let value = made (form_is h Ends called (E.Spawn 0) (F.Spawn 0) (X.outs-Spawn 0) w (bare (TaskFull q ∷ []) 0) end (λ v s. end v (binds s 0 v))) stop in
    record { ran = made (item_form_is h Ends called (I.Bind 0 (E.Spawn 0)) (F.Item::Bind 0 (E.Spawn 0)) (X.outs-Item::Bind 0 (E.Spawn 0)) (first_state (Look w p ∷ TaskFull q ∷ [])) end end) value }

-- ---- a definition where the last world stands

abbrev defining : Program
defining = record { decls = []; functions = prelude_functions ++ codes "f" ∷ []; sites = prelude_sites ++ endless ∷ []; spawns = []; deletes = []; top = I.Define 14 ∷ [] }

abbrev no_world : Outcome
no_world = O.Error Fa.WorldLimit

world_limit : (es : List Event) (w p q : ℕ) → Run (setting_of defining es None 10) None (Look w p ∷ WorldFull q ∷ []) no_world [] 0 []
world_limit es w p q =
    let Ends : Outcome → State → Type 0 = IsEnd no_world [] 0 [] in
    let h : Setting = setting_of defining es None 10 in
    let called : Caller = calls h Ends open_calls in
    let end : Then = λ v s. Ends (O.Value v) s in
    let stop : Ends no_world (bare [] 0) = record { is = refl; whole = refl; printed = refl; counted_calls = refl; spawned_tasks = refl } in
    record { ran = define_runs h Ends called 14 (first_state (Look w p ∷ WorldFull q ∷ [])) end end stop }
