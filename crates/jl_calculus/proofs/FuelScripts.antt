-- Whole scripts with fuel for three calls: `c() = 5`, `b() = c()`, `a() = b()`, `z() = a()`, and then `println(a())` or `println(z())`. And
-- a task that fails and is not fetched.
use Rattle.std.proofs.Common.{◌≡◌, refl, ap, ℕ, suc, pos, true, codes, List, [], ◌∷◌, ◌++◌, None}
use Rattle.std.specs.Fmt.{digits}
use Rattle.jl_program.specs.declared.choice.Choice.TheVariants as C
use Rattle.jl_program.specs.declared.datum.Datum.TheOpen as D
use Rattle.jl_program.specs.declared.datum.Datum.TheFolds.{fold-roll-Datum}
use Rattle.jl_program.specs.declared.fault.Fault.TheVariants as Fa
use Rattle.jl_program.specs.declared.tree.Expr.{Expr}
use Rattle.jl_program.specs.declared.tree.Expr.TheOpen as F
use Rattle.jl_program.specs.declared.tree.Expr.TheVariants as E
use Rattle.jl_program.specs.declared.tree.Expr.TheViews as X
use Rattle.jl_program.specs.declared.tree.Item.TheVariants as I
use Rattle.jl_program.specs.declared.tree.Piece.TheVariants as Pi
use Rattle.jl_program.specs.declared.tree.Program.{Program}
use Rattle.jl_program.specs.declared.tree.Site.{Site}
use Rattle.jl_program.specs.declared.value.Value.TheVariants as V
use Rattle.jl_program.specs.Prelude.{plain, prelude_functions, prelude_sites}
use Rattle.jl_program.specs.Scope.{types_of}
use Rattle.jl_program.specs.Text.{value_text, datum_step}
use Rattle.jl_program.proofs.FirstChoices.{only_choice}
use Rattle.jl_calculus.specs.declared.history.Event.{Event}
use Rattle.jl_calculus.specs.declared.history.Event.TheVariants as Ev
use Rattle.jl_calculus.specs.declared.history.Outcome.{Outcome}
use Rattle.jl_calculus.specs.declared.history.Outcome.TheVariants as O
use Rattle.jl_calculus.specs.declared.history.TraceItem.{TraceItem}
use Rattle.jl_calculus.specs.declared.history.TraceItem.TheVariants.{Look, Def, Spawn}
use Rattle.jl_calculus.specs.Legal.{text_of, status_of}
use Rattle.jl_calculus.specs.Run.{Setting, setting_of, State, Then, IsEnd, Caller, Run, calls, runs_item, prints, binds, with_scope, first_state, open_calls}
use Rattle.jl_calculus.specs.World.{Selects}
use Rattle.jl_calculus.proofs.Forms.{form_is, item_form_is, int_runs, call_runs, print_runs, show_runs, define_runs, do_runs}
use Rattle.jl_calculus.proofs.TaskScripts.{division, start}
use Rattle.jl_calculus.proofs.WorldScripts.{made, bare, empty_applies}
use Rattle.jl_calculus.proofs.SelectLemmas.{selects_plain}

-- a function without parameters, whose body is this
abbrev site : ℕ → Expr → Site
site function body = record { function = function; sig = plain []; body = body }

-- the last line
abbrev shown : ℕ → Expr
shown f = X.Print (Pi.Show (X.Call f []) ∷ []) true

abbrev script : ℕ → Program
script f = record {
  decls = [];
  functions = prelude_functions ++ codes "c" ∷ codes "b" ∷ codes "a" ∷ codes "z" ∷ [];
  sites = prelude_sites ++ site 12 (E.Int (pos 5)) ∷ site 13 (X.Call 12 []) ∷ site 14 (X.Call 13 []) ∷ site 15 (X.Call 14 []) ∷ [];
  spawns = [];
  deletes = [];
  top = I.Define 14 ∷ I.Define 15 ∷ I.Define 16 ∷ I.Define 17 ∷ I.Do (shown f) ∷ [];
}

abbrev events : List Event
events = Ev.Begin 3 ∷ Ev.Def 0 14 ∷ Ev.Def 0 15 ∷ Ev.Def 0 16 ∷ Ev.Def 0 17 ∷ []

abbrev trace : List TraceItem
trace = Look 14 1 ∷ Def 14 1 ∷ Look 15 2 ∷ Def 15 2 ∷ Look 16 3 ∷ Def 16 3 ∷ Look 17 4 ∷ Def 17 4 ∷ Look 18 5 ∷ []

module _ (f : ℕ) where
  c_is : Selects (script f) events 12 [] 18 (C.Method 15)
  c_is = selects_plain (script f) refl events 12 [] 18 (C.Method 15) (only_choice (types_of (script f)) (record { number = 15; sig = plain [] }) [] (empty_applies (types_of (script f))))

  b_is : Selects (script f) events 13 [] 18 (C.Method 16)
  b_is = selects_plain (script f) refl events 13 [] 18 (C.Method 16) (only_choice (types_of (script f)) (record { number = 16; sig = plain [] }) [] (empty_applies (types_of (script f))))

  a_is : Selects (script f) events 14 [] 18 (C.Method 17)
  a_is = selects_plain (script f) refl events 14 [] 18 (C.Method 17) (only_choice (types_of (script f)) (record { number = 17; sig = plain [] }) [] (empty_applies (types_of (script f))))

  z_is : Selects (script f) events 15 [] 18 (C.Method 18)
  z_is = selects_plain (script f) refl events 15 [] 18 (C.Method 18) (only_choice (types_of (script f)) (record { number = 18; sig = plain [] }) [] (empty_applies (types_of (script f))))

  abbrev g : Setting
  g = setting_of (script f) events None 3

  module _ (Ends : Outcome → State → Type 0) where
    -- what follows the value of a call, after it and its body
    abbrev after : Then → Then
    after next = λ v s. next v (with_scope s [] [])

    -- the rest of the script after its definitions
    whole : (let called : Caller = calls g Ends open_calls in let end : Then = λ v s. Ends (O.Value v) s in
        called f [] 18 (bare [] 0) (λ v s. end V.Nothing (prints s (([] ++ value_text (script f) v) ++ codes "\n")))) →
        (let called : Caller = calls g Ends open_calls in let end : Then = λ v s. Ends (O.Value v) s in
        runs_item g Ends called (I.Define 14) (first_state trace) end (λ v s. runs_item g Ends called (I.Define 15) s end (λ v1 s1. runs_item g Ends called (I.Define 16) s1 end
        (λ v2 s2. runs_item g Ends called (I.Define 17) s2 end (λ v3 s3. runs_item g Ends called (I.Do (shown f)) s3 end end)))))
    whole h =
        let called : Caller = calls g Ends open_calls in
        let end : Then = λ v s. Ends (O.Value v) s in
        let i5 : Then = λ v s. runs_item g Ends called (I.Do (shown f)) s end end in
        let i4 : Then = λ v s. runs_item g Ends called (I.Define 17) s end i5 in
        let i3 : Then = λ v s. runs_item g Ends called (I.Define 16) s end i4 in
        let i2 : Then = λ v s. runs_item g Ends called (I.Define 15) s end i3 in
        let text : List ℕ → State → Type 0 = λ t s. end V.Nothing (prints s (t ++ codes "\n")) in
        let value = call_runs g Ends called f [] 18 (bare [] 0) end (λ v s. text ([] ++ value_text (script f) v) s) h in
        let piece = show_runs g Ends called (X.Call f []) 18 (bare [] 0) end (λ t s. text ([] ++ t) s) value in
        let line = print_runs g Ends called (Pi.Show (X.Call f []) ∷ []) true 18 (bare [] 0) end end piece in
        let fifth = do_runs g Ends called (shown f) (bare (Look 18 5 ∷ []) 0) end end line in
        let fourth = define_runs g Ends called 17 (bare (Look 17 4 ∷ Def 17 4 ∷ Look 18 5 ∷ []) 0) end i5 (refl, fifth) in
        let third = define_runs g Ends called 16 (bare (Look 16 3 ∷ Def 16 3 ∷ Look 17 4 ∷ Def 17 4 ∷ Look 18 5 ∷ []) 0) end i4 (refl, fourth) in
        let second = define_runs g Ends called 15 (bare (Look 15 2 ∷ Def 15 2 ∷ Look 16 3 ∷ Def 16 3 ∷ Look 17 4 ∷ Def 17 4 ∷ Look 18 5 ∷ []) 0) end i3 (refl, third) in
        define_runs g Ends called 14 (first_state trace) end i2 (refl, second)

-- `println(a())`: three calls are made
five_is : value_text (script 14) (V.Int (pos 5)) ≡ codes "5"
unfolding digits
five_is = fold-roll-Datum (List ℕ) (datum_step (script 14)) (D.Int (pos 5))

five : Run (setting_of (script 14) events None 3) None trace (O.Value V.Nothing) (codes "5\n") 3 []
five =
    let o : Outcome = O.Value V.Nothing in
    let Ends : Outcome → State → Type 0 = IsEnd o (codes "5\n") 3 [] in
    let h : Setting = setting_of (script 14) events None 3 in
    let n1 : Then = λ v s. Ends (O.Value V.Nothing) (prints s (([] ++ value_text (script 14) v) ++ codes "\n")) in
    let n2 : Then = λ v s. n1 v (with_scope s [] []) in
    let n3 : Then = λ v s. n2 v (with_scope s [] []) in
    let n4 : Then = λ v s. n3 v (with_scope s [] []) in
    let stop : n4 (V.Int (pos 5)) (bare [] 3) = record { is = refl; whole = refl; printed = ap (λ (t : List ℕ). t ++ codes "\n") five_is; counted_calls = refl; spawned_tasks = refl } in
    let literal = int_runs h Ends (calls h Ends 99997) (pos 5) 18 (bare [] 3) n4 n4 stop in
    let c_call : calls h Ends (suc 99997) 12 [] 18 (bare [] 2) n3 = (C.Method 15, c_is 14, tt, literal) in
    let b_body = call_runs h Ends (calls h Ends 99998) 12 [] 18 (bare [] 2) n3 n3 c_call in
    let b_call : calls h Ends (suc 99998) 13 [] 18 (bare [] 1) n2 = (C.Method 16, b_is 14, tt, b_body) in
    let a_body = call_runs h Ends (calls h Ends 99999) 13 [] 18 (bare [] 1) n2 n2 b_call in
    let a_call : calls h Ends (suc 99999) 14 [] 18 (bare [] 0) n1 = (C.Method 17, a_is 14, tt, a_body) in
    record { ran = whole 14 Ends a_call }

-- `println(z())`: the fourth call has no fuel
abbrev spent : Outcome
spent = O.Error (Fa.FuelSpent 3)

no_fuel : Run (setting_of (script 15) events None 3) None trace spent [] 3 []
no_fuel =
    let Ends : Outcome → State → Type 0 = IsEnd spent [] 3 [] in
    let h : Setting = setting_of (script 15) events None 3 in
    let n1 : Then = λ v s. Ends (O.Value V.Nothing) (prints s (([] ++ value_text (script 15) v) ++ codes "\n")) in
    let n2 : Then = λ v s. n1 v (with_scope s [] []) in
    let n3 : Then = λ v s. n2 v (with_scope s [] []) in
    let n4 : Then = λ v s. n3 v (with_scope s [] []) in
    let stop : Ends spent (bare [] 3) = record { is = refl; whole = refl; printed = refl; counted_calls = refl; spawned_tasks = refl } in
    let c_call : calls h Ends (suc 99996) 12 [] 18 (bare [] 3) n4 = stop in
    let b_body = call_runs h Ends (calls h Ends 99997) 12 [] 18 (bare [] 3) n4 n4 c_call in
    let b_call : calls h Ends (suc 99997) 13 [] 18 (bare [] 2) n3 = (C.Method 16, b_is 15, tt, b_body) in
    let a_body = call_runs h Ends (calls h Ends 99998) 13 [] 18 (bare [] 2) n3 n3 b_call in
    let a_call : calls h Ends (suc 99998) 14 [] 18 (bare [] 1) n2 = (C.Method 17, a_is 15, tt, a_body) in
    let z_body = call_runs h Ends (calls h Ends 99999) 14 [] 18 (bare [] 1) n2 n2 a_call in
    let z_call : calls h Ends (suc 99999) 15 [] 18 (bare [] 0) n1 = (C.Method 18, z_is 15, tt, z_body) in
    record { ran = whole 15 Ends z_call }

no_fuel_text : text_of (script 15) (events ++ Ev.Done 0 (record { trace = trace; outcome = spent; output = []; calls = 3 }) ∷ []) ≡ codes "ERROR: FuelSpent: 3 calls\n"
unfolding digits
no_fuel_text = refl

-- ---- `t = Threads.@spawn div(1, 0)` alone: the root ends with the task, and nothing is written

abbrev quiet : Program
quiet = record { decls = []; functions = prelude_functions; sites = prelude_sites; spawns = division ∷ []; deletes = []; top = I.Bind 0 (E.Spawn 0) ∷ [] }

abbrev quiet_trace : List TraceItem
quiet_trace = Look 14 1 ∷ Spawn 1 1 ∷ []

not_fetched : (es : List Event) → Run (setting_of quiet es None 10) None quiet_trace (O.Value (V.Task 1)) [] 0 (start 14 ∷ [])
not_fetched es =
    let o : Outcome = O.Value (V.Task 1) in
    let Ends : Outcome → State → Type 0 = IsEnd o [] 0 (start 14 ∷ []) in
    let end : Then = λ v s. Ends (O.Value v) s in
    let h : Setting = setting_of quiet es None 10 in
    let called : Caller = calls h Ends open_calls in
    let stop : Ends o (record { env = V.Task 1 ∷ []; bindings = []; left = []; calls = 0; out = []; starts = start 14 ∷ [] }) =
    record { is = refl; whole = refl; printed = refl; counted_calls = refl; spawned_tasks = refl } in
    let spawn = made (form_is h Ends called (E.Spawn 0) (F.Spawn 0) (X.outs-Spawn 0) 14 (bare (Spawn 1 1 ∷ []) 0) end (λ v s. end v (binds s 0 v))) stop in
    record { ran = made (item_form_is h Ends called (I.Bind 0 (E.Spawn 0)) (F.Item::Bind 0 (E.Spawn 0)) (X.outs-Item::Bind 0 (E.Spawn 0)) (first_state quiet_trace) end end) spawn }

abbrev quiet_history : List Event
quiet_history =
    Ev.Begin 10 ∷ Ev.Spawn 0 1 (start 14) ∷ Ev.Done 0 (record { trace = quiet_trace; outcome = O.Value (V.Task 1); output = []; calls = 0 })
    ∷ Ev.Done 1 (record { trace = []; outcome = O.Error Fa.DivideError; output = []; calls = 1 }) ∷ []

nothing_written : text_of quiet quiet_history ≡ []
nothing_written = refl

no_failure : status_of quiet_history ≡ 0
no_failure = refl
