-- The run, computed on scripts that define a method while they run: the code around an evaluated definition does not see it, and
-- `invokelatest` does.
use Rattle.std.proofs.Common.{◌≡◌, refl, sym, subst, ℕ, suc, pos, codes, List, [], ◌∷◌, ◌++◌, None, arith}
use Rattle.std.specs.List.{Contains}
use Rattle.jl_model.specs.Choice.{Method}
use Rattle.jl_model.specs.Signature.{Applicable, both_end}
use Rattle.jl_model.specs.Subtype.{Table}
use Rattle.jl_program.specs.declared.choice.Choice.TheVariants as C
use Rattle.jl_program.specs.declared.fault.Fault.TheVariants as Fa
use Rattle.jl_program.specs.declared.tree.Expr.{Expr}
use Rattle.jl_program.specs.declared.tree.Expr.TheOpen as F
use Rattle.jl_program.specs.declared.tree.Expr.TheVariants as E
use Rattle.jl_program.specs.declared.tree.Expr.TheViews as X
use Rattle.jl_program.specs.declared.tree.Item.TheVariants as I
use Rattle.jl_program.specs.declared.tree.Program.{Program}
use Rattle.jl_program.specs.declared.tree.Stmt.{Stmt}
use Rattle.jl_program.specs.declared.tree.Stmt.TheVariants as S
use Rattle.jl_program.specs.declared.value.Value.TheVariants as V
use Rattle.jl_program.specs.Prelude.{plain, prelude_functions, prelude_sites}
use Rattle.jl_program.specs.Scope.{types_of}
use Rattle.jl_program.proofs.FirstChoices.{applies_by, only_choice}
use Rattle.jl_calculus.specs.declared.history.Event.{Event}
use Rattle.jl_calculus.specs.declared.history.Event.TheVariants as Ev
use Rattle.jl_calculus.specs.declared.history.Outcome.{Outcome}
use Rattle.jl_calculus.specs.declared.history.Outcome.TheVariants as O
use Rattle.jl_calculus.specs.declared.history.TraceItem.{TraceItem}
use Rattle.jl_calculus.specs.declared.history.TraceItem.TheVariants.{Look, Def}
use Rattle.jl_calculus.specs.Run.{Setting, setting_of, State, Then, IsEnd, Caller, Run, calls, runs, runs_stmt, runs_item, stmts_run, with_env, with_scope, first_state, open_calls}
use Rattle.jl_calculus.specs.World.{Selects}
use Rattle.jl_calculus.proofs.Forms.{form_is, stmt_form_is, item_form_is}
use Rattle.jl_calculus.proofs.SelectLemmas.{selects_plain}

-- from what a form runs as to the form
pub made : {A B : Type 0} → A ≡ B → B → A
made e h = subst (λ (X : Type 0). X) (sym e) h

pub nowhere : (m : Method) → Contains [] m → ⊥
nowhere m (k, l, e) = absurd (omega (arith, l))

-- a signature without parts applies to no arguments
pub empty_applies : (n : Table) → Applicable n (plain []) []
empty_applies n = applies_by n [] [] (0, omega arith, refl) refl both_end

-- where a run is: no slots, this trace to come, and so many calls made
abbrev pub bare : List TraceItem → ℕ → State
bare left count = record { env = []; bindings = []; left = left; calls = count; out = []; starts = [] }

-- `tryeval` evaluates `newfun() = 1`, and then does what is said here; site 14 is its own, and site 15 that of `newfun`
abbrev body : Expr → Expr
body last = X.Block (S.Do (X.Eval (I.Define 15 ∷ [])) ∷ S.Do last ∷ [])

abbrev script : Expr → Program
script last = record {
  decls = [];
  functions = prelude_functions ++ codes "tryeval" ∷ codes "newfun" ∷ [];
  sites = prelude_sites ++ record { function = 12; sig = plain []; body = body last } ∷ record { function = 13; sig = plain []; body = E.Int (pos 1) } ∷ [];
  spawns = [];
  deletes = [];
  top = I.Define 14 ∷ I.Do (X.Call 12 []) ∷ [];
}

abbrev events : List Event
events = Ev.Begin 10 ∷ Ev.Def 0 14 ∷ Ev.Def 0 15 ∷ []

abbrev seen : List TraceItem
seen = Look 15 2 ∷ Def 15 2 ∷ []

tryeval_chosen : (last : Expr) → Selects (script last) events 12 [] 15 (C.Method 15)
tryeval_chosen last = selects_plain (script last) refl events 12 [] 15 (C.Method 15) (only_choice (types_of (script last)) (record { number = 15; sig = plain [] }) [] (empty_applies (types_of (script last))))

-- the call of `tryeval` in world 15, up to the last expression of its body, in the state that the definition leaves
module _ (last : Expr) (more : List TraceItem) (Ends : Outcome → State → Type 0) (back next : Then) where
  abbrev g : Setting
  g = setting_of (script last) events None 10

  abbrev within : Caller
  within = calls g Ends 99999

  abbrev after : Then
  after = λ v s. next v (with_scope s [] [])

  abbrev inner : Then
  inner = λ v s. after v (with_env s [])

  calls_tryeval : runs g Ends within last 15 (bare more 1) after inner → calls g Ends (suc 99999) 12 [] 15 (bare (Look 15 2 ∷ Def 15 2 ∷ more) 0) next
  calls_tryeval h =
      let s : State = bare (Look 15 2 ∷ Def 15 2 ∷ more) 1 in
      let tail : List Stmt = S.Do last ∷ [] in
      let rest : Then = λ v s1. stmts_run (runs_stmt g Ends within) tail v 15 s1 after inner in
      let evaluated : Expr = X.Eval (I.Define 15 ∷ []) in
      let second = made (stmt_form_is g Ends within (S.Do last) (F.Stmt::Do last) (X.outs-Stmt::Do last) 15 (bare more 1) after inner) h in
      let defined = made (item_form_is g Ends within (I.Define 15) (F.Define 15) (X.outs-Define 15) s after (λ v s1. rest v (with_scope s1 [] []))) (refl, second) in
      let first = made (form_is g Ends within evaluated (F.Eval (I.Define 15 ∷ [])) (X.outs-Eval (I.Define 15 ∷ [])) 15 s after rest) defined in
      let statement = made (stmt_form_is g Ends within (S.Do evaluated) (F.Stmt::Do evaluated) (X.outs-Stmt::Do evaluated) 15 s after rest) first in
      let block = made (form_is g Ends within (body last) (F.Block (S.Do evaluated ∷ tail)) (X.outs-Block (S.Do evaluated ∷ tail)) 15 s after after) statement in
      (C.Method 15, tryeval_chosen last, tt, block)

-- the script, where the call of `tryeval` goes on so
whole : (last : Expr) (more : List TraceItem) (outcome : Outcome) (made_calls : ℕ)
    → (let Ends : Outcome → State → Type 0 = IsEnd outcome [] made_calls [] in let end : Then = λ v s. Ends (O.Value v) s in
    runs (setting_of (script last) events None 10) Ends (calls (setting_of (script last) events None 10) Ends 99999) last 15 (bare more 1)
    (λ v s. end v (with_scope s [] [])) (λ v s. end v (with_scope (with_env s []) [] [])))
    → Run (setting_of (script last) events None 10) None (Look 14 1 ∷ Def 14 1 ∷ Look 15 2 ∷ Look 15 2 ∷ Def 15 2 ∷ more) outcome [] made_calls []
whole last more outcome made_calls h =
    let Ends : Outcome → State → Type 0 = IsEnd outcome [] made_calls [] in
    let end : Then = λ v s. Ends (O.Value v) s in
    let g : Setting = setting_of (script last) events None 10 in
    let called : Caller = calls g Ends open_calls in
    let call : Expr = X.Call 12 [] in
    let left : List TraceItem = Look 15 2 ∷ Def 15 2 ∷ more in
    let trace : List TraceItem = Look 14 1 ∷ Def 14 1 ∷ Look 15 2 ∷ left in
    let calling = calls_tryeval last more Ends end end h in
    let value = made (form_is g Ends called call (F.Call 12 []) (X.outs-Call 12 []) 15 (bare left 0) end end) calling in
    let second = made (item_form_is g Ends called (I.Do call) (F.Item::Do call) (X.outs-Item::Do call) (bare (Look 15 2 ∷ left) 0) end end) value in
    record { ran = made (item_form_is g Ends called (I.Define 14) (F.Define 14) (X.outs-Define 14) (first_state trace) end (λ v s. runs_item g Ends called (I.Do call) s end end)) (refl, second) }

-- `newfun()`: in world 15 there is no method
abbrev direct : Expr
direct = X.Call 13 []

not_there : Selects (script direct) events 13 [] 15 C.None
not_there = selects_plain (script direct) refl events 13 [] 15 C.None (λ m h. nowhere m h.applies.stands)

no_method : Run (setting_of (script direct) events None 10) None (Look 14 1 ∷ Def 14 1 ∷ Look 15 2 ∷ Look 15 2 ∷ Def 15 2 ∷ []) (O.Error (Fa.NoMethod 13 [] 15)) [] 2 []
no_method =
    let o : Outcome = O.Error (Fa.NoMethod 13 [] 15) in
    let Ends : Outcome → State → Type 0 = IsEnd o [] 2 [] in
    let end : Then = λ v s. Ends (O.Value v) s in
    let g : Setting = setting_of (script direct) events None 10 in
    let stop : Ends o (bare [] 2) = record { is = refl; whole = refl; printed = refl; counted_calls = refl; spawned_tasks = refl } in
    let back : Then = λ v s. end v (with_scope s [] []) in
    let next : Then = λ v s. end v (with_scope (with_env s []) [] []) in
    let call : calls g Ends (suc 99998) 13 [] 15 (bare [] 1) next = (C.None, not_there, tt, stop) in
    whole direct [] o 2 (made (form_is g Ends (calls g Ends 99999) direct (F.Call 13 []) (X.outs-Call 13 []) 15 (bare [] 1) back next) call)

-- `Base.invokelatest(newfun)`: the call is made in world 16
abbrev newest : Expr
newest = X.Latest 13 []

there : Selects (script newest) events 13 [] 16 (C.Method 16)
there = selects_plain (script newest) refl events 13 [] 16 (C.Method 16) (only_choice (types_of (script newest)) (record { number = 16; sig = plain [] }) [] (empty_applies (types_of (script newest))))

latest : Run (setting_of (script newest) events None 10) None (Look 14 1 ∷ Def 14 1 ∷ Look 15 2 ∷ Look 15 2 ∷ Def 15 2 ∷ Look 16 3 ∷ []) (O.Value (V.Int (pos 1))) [] 2 []
latest =
    let o : Outcome = O.Value (V.Int (pos 1)) in
    let Ends : Outcome → State → Type 0 = IsEnd o [] 2 [] in
    let end : Then = λ v s. Ends (O.Value v) s in
    let g : Setting = setting_of (script newest) events None 10 in
    let stop : Ends o (bare [] 2) = record { is = refl; whole = refl; printed = refl; counted_calls = refl; spawned_tasks = refl } in
    let back : Then = λ v s. end v (with_scope s [] []) in
    let next : Then = λ v s. end v (with_scope (with_env s []) [] []) in
    let inside : Then = λ v s. next v (with_scope s [] []) in
    let one = made (form_is g Ends (calls g Ends 99998) (E.Int (pos 1)) (F.Int (pos 1)) (X.outs-Int (pos 1)) 16 (bare [] 2) inside inside) stop in
    let call : calls g Ends (suc 99998) 13 [] 16 (bare [] 1) next = (C.Method 16, there, tt, one) in
    whole newest (Look 16 3 ∷ []) o 2 (made (form_is g Ends (calls g Ends 99999) newest (F.Latest 13 []) (X.outs-Latest 13 []) 15 (bare (Look 16 3 ∷ []) 1) back next) call)
