-- The run, computed on a script with a task that fails and is fetched.
use Rattle.std.proofs.Common.{refl, ℕ, suc, pos, List, [], ◌∷◌, Some, None}
use Rattle.jl_program.specs.declared.choice.Choice.TheVariants as C
use Rattle.jl_program.specs.declared.fault.Fault.TheVariants as Fa
use Rattle.jl_program.specs.declared.tree.Expr.{Expr}
use Rattle.jl_program.specs.declared.tree.Expr.TheOpen as F
use Rattle.jl_program.specs.declared.tree.Expr.TheVariants as E
use Rattle.jl_program.specs.declared.tree.Expr.TheViews as X
use Rattle.jl_program.specs.declared.tree.Item.TheVariants as I
use Rattle.jl_program.specs.declared.tree.Program.{Program}
use Rattle.jl_program.specs.declared.tree.Start.{Start}
use Rattle.jl_program.specs.declared.value.Value.TheVariants as V
use Rattle.jl_program.specs.Prelude.{plain, two, prelude_functions, prelude_sites}
use Rattle.jl_program.specs.Scope.{types_of}
use Rattle.jl_program.proofs.FirstChoices.{only_choice, two_apply}
use Rattle.jl_calculus.specs.declared.history.Event.{Event}
use Rattle.jl_calculus.specs.declared.history.Outcome.{Outcome}
use Rattle.jl_calculus.specs.declared.history.Outcome.TheVariants as O
use Rattle.jl_calculus.specs.declared.history.TraceItem.{TraceItem}
use Rattle.jl_calculus.specs.declared.history.TraceItem.TheVariants.{Look, Spawn, Fetch}
use Rattle.jl_calculus.specs.Run.{Setting, setting_of, State, Then, IsEnd, Caller, Run, calls, runs, runs_item, binds, fetches_value, first_state, open_calls}
use Rattle.jl_calculus.specs.World.{Selects}
use Rattle.jl_calculus.proofs.Forms.{form_is, item_form_is}
use Rattle.jl_calculus.proofs.WorldScripts.{made, bare}
use Rattle.jl_calculus.proofs.SelectLemmas.{selects_plain}

-- ---- `t = Threads.@spawn div(1, 0)`, and then `fetch(t)`

abbrev pub division : Expr
division = X.Call 3 (E.Int (pos 1) ∷ E.Int (pos 0) ∷ [])

abbrev pub failing : Program
failing = record { decls = []; functions = prelude_functions; sites = prelude_sites; spawns = division ∷ []; deletes = []; top = I.Bind 0 (E.Spawn 0) ∷ I.Do (X.Fetch (E.Local 0)) ∷ [] }

abbrev pub start : ℕ → Start
start w = record { spawn = 0; env = []; bindings = []; world = w }

-- the task fails, whatever the events are
div_chosen : (es : List Event) → Selects failing es 3 two 14 (C.Method 4)
div_chosen es = selects_plain failing refl es 3 two 14 (C.Method 4) (only_choice (types_of failing) (record { number = 4; sig = plain two }) two (two_apply (types_of failing)))

pub child_fails : (es : List Event) → Run (setting_of failing es None 10) (Some (start 14)) [] (O.Error Fa.DivideError) [] 1 []
child_fails es =
    let o : Outcome = O.Error Fa.DivideError in
    let Ends : Outcome → State → Type 0 = IsEnd o [] 1 [] in
    let end : Then = λ v s. Ends (O.Value v) s in
    let g : Setting = setting_of failing es None 10 in
    let called : Caller = calls g Ends open_calls in
    let s : State = bare [] 0 in
    let stop : Ends o (bare [] 1) = record { is = refl; whole = refl; printed = refl; counted_calls = refl; spawned_tasks = refl } in
    let call : calls g Ends (suc 99999) 3 (V.Int (pos 1) ∷ V.Int (pos 0) ∷ []) 14 s end = (C.Method 4, div_chosen es, tt, stop) in
    let second = made (form_is g Ends called (E.Int (pos 0)) (F.Int (pos 0)) (X.outs-Int (pos 0)) 14 s end (λ v s1. called 3 (V.Int (pos 1) ∷ v ∷ []) 14 s1 end)) call in
    let first = made (form_is g Ends called (E.Int (pos 1)) (F.Int (pos 1)) (X.outs-Int (pos 1)) 14 s end (λ v s1. runs g Ends called (E.Int (pos 0)) 14 s1 end (λ u s2. called 3 (v ∷ u ∷ []) 14 s2 end))) second in
    record { ran = made (form_is g Ends called division (F.Call 3 (E.Int (pos 1) ∷ E.Int (pos 0) ∷ [])) (X.outs-Call 3 (E.Int (pos 1) ∷ E.Int (pos 0) ∷ [])) 14 s end end) first }

-- the root spawns it, fetches it and fails
abbrev fetched : TraceItem
fetched = Fetch 1 (O.Error Fa.DivideError) 3

root_fails : (es : List Event) → Run (setting_of failing es None 10) None (Look 14 1 ∷ Spawn 1 1 ∷ Look 14 2 ∷ fetched ∷ []) (O.Error (Fa.TaskFailed 1)) [] 0 (start 14 ∷ [])
root_fails es =
    let o : Outcome = O.Error (Fa.TaskFailed 1) in
    let Ends : Outcome → State → Type 0 = IsEnd o [] 0 (start 14 ∷ []) in
    let end : Then = λ v s. Ends (O.Value v) s in
    let g : Setting = setting_of failing es None 10 in
    let called : Caller = calls g Ends open_calls in
    let with_task : List TraceItem → State = λ left. record { env = V.Task 1 ∷ []; bindings = []; left = left; calls = 0; out = []; starts = start 14 ∷ [] } in
    let fetch : Expr = X.Fetch (E.Local 0) in
    let stop : Ends o (with_task []) = record { is = refl; whole = refl; printed = refl; counted_calls = refl; spawned_tasks = refl } in
    let task = made (form_is g Ends called (E.Local 0) (F.Local 0) (X.outs-Local 0) 14 (with_task (fetched ∷ [])) end (λ v s. fetches_value g Ends v s end)) (refl, stop) in
    let value = made (form_is g Ends called fetch (F.Fetch (E.Local 0)) (X.outs-Fetch (E.Local 0)) 14 (with_task (fetched ∷ [])) end end) task in
    let second = made (item_form_is g Ends called (I.Do fetch) (F.Item::Do fetch) (X.outs-Item::Do fetch) (with_task (Look 14 2 ∷ fetched ∷ [])) end end) value in
    let rest : Then = λ v s. runs_item g Ends called (I.Do fetch) s end end in
    let spawn = made (form_is g Ends called (E.Spawn 0) (F.Spawn 0) (X.outs-Spawn 0) 14 (bare (Spawn 1 1 ∷ Look 14 2 ∷ fetched ∷ []) 0) end (λ v s. rest v (binds s 0 v))) second in
    record { ran = made (item_form_is g Ends called (I.Bind 0 (E.Spawn 0)) (F.Item::Bind 0 (E.Spawn 0)) (X.outs-Item::Bind 0 (E.Spawn 0)) (first_state (Look 14 1 ∷ Spawn 1 1 ∷ Look 14 2 ∷ fetched ∷ [])) end rest) spawn }
