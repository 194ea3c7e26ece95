-- Definitions that are seen later: `tryeval` evaluates `newfun() = 1` and gives nothing, and the next line calls `newfun`; and two tasks
-- that each define `f` once more, of which the later definition is called, whichever it is.
use Rattle.std.proofs.Common.{◌≡◌, refl, sym, ap, subst, ℕ, zero, suc, ◌<◌, pos, true, codes, List, [], ◌∷◌, ◌++◌, None, arith}
use Rattle.std.specs.Fmt.{digits}
use Rattle.std.specs.List.{Contains}
use Rattle.jl_model.specs.Choice.{Method, Applies, IsCandidate, IsBest, ChoosesMethod}
use Rattle.jl_model.specs.Signature.{SameSignature}
use Rattle.jl_model.specs.Subtype.{Table}
use Rattle.jl_program.specs.declared.choice.Choice.TheVariants as C
use Rattle.jl_program.specs.declared.datum.Datum.TheOpen as D
use Rattle.jl_program.specs.declared.datum.Datum.TheFolds.{fold-roll-Datum}
use Rattle.jl_program.specs.declared.tree.Expr.{Expr}
use Rattle.jl_program.specs.declared.tree.Expr.TheOpen as F
use Rattle.jl_program.specs.declared.tree.Expr.TheVariants as E
use Rattle.jl_program.specs.declared.tree.Expr.TheViews as X
use Rattle.jl_program.specs.declared.tree.Item.TheVariants as I
use Rattle.jl_program.specs.declared.tree.Piece.TheVariants as Pi
use Rattle.jl_program.specs.declared.tree.Program.{Program}
use Rattle.jl_program.specs.declared.tree.Site.{Site}
use Rattle.jl_program.specs.declared.tree.Start.{Start}
use Rattle.jl_program.specs.declared.tree.Stmt.TheVariants as S
use Rattle.jl_program.specs.declared.value.Value.TheVariants as V
use Rattle.jl_program.specs.Prelude.{plain, prelude_functions, prelude_sites}
use Rattle.jl_program.specs.Scope.{types_of}
use Rattle.jl_program.specs.Text.{value_text, datum_step}
use Rattle.jl_program.proofs.FirstChoices.{only_choice}
use Rattle.jl_calculus.specs.declared.history.Event.{Event}
use Rattle.jl_calculus.specs.declared.history.Event.TheVariants as Ev
use Rattle.jl_calculus.specs.declared.history.Outcome.{Outcome}
use Rattle.jl_calculus.specs.declared.history.Outcome.TheVariants as O
use Rattle.jl_calculus.specs.declared.history.TraceItem.{TraceItem}
use Rattle.jl_calculus.specs.declared.history.TraceItem.TheVariants.{Look, Def}
use Rattle.jl_calculus.specs.Run.{Setting, setting_of, State, Then, IsEnd, Caller, Run, calls, runs_stmt, runs_item, stmts_run, prints, with_env, with_scope, first_state, open_calls}
use Rattle.jl_calculus.specs.World.{site_of, Selects}
use Rattle.jl_calculus.proofs.Forms.{form_is, stmt_form_is, item_form_is, int_runs, call_runs, print_runs, show_runs, define_runs, do_runs}
use Rattle.jl_calculus.proofs.TaskRuns.{empty_below}
use Rattle.jl_calculus.proofs.WorldScripts.{made, bare, empty_applies}
use Rattle.jl_calculus.proofs.SelectLemmas.{selects_plain}

-- ---- `tryeval()`, and then `println(newfun())`

abbrev evaluated : Expr
evaluated = X.Eval (I.Define 15 ∷ [])

abbrev body : Expr
body = X.Block (S.Do evaluated ∷ S.Do E.Nothing ∷ [])

abbrev shown : Expr
shown = X.Print (Pi.Show (X.Call 13 []) ∷ []) true

abbrev script : Program
script = record {
  decls = [];
  functions = prelude_functions ++ codes "tryeval" ∷ codes "newfun" ∷ [];
  sites = prelude_sites ++ record { function = 12; sig = plain []; body = body } ∷ record { function = 13; sig = plain []; body = E.Int (pos 1) } ∷ [];
  spawns = [];
  deletes = [];
  top = I.Define 14 ∷ I.Do (X.Call 12 []) ∷ I.Do shown ∷ [];
}

abbrev events : List Event
events = Ev.Begin 10 ∷ Ev.Def 0 14 ∷ Ev.Def 0 15 ∷ []

abbrev trace : List TraceItem
trace = Look 14 1 ∷ Def 14 1 ∷ Look 15 2 ∷ Look 15 2 ∷ Def 15 2 ∷ Look 16 3 ∷ []

tryeval_is : Selects script events 12 [] 15 (C.Method 15)
tryeval_is = selects_plain script refl events 12 [] 15 (C.Method 15) (only_choice (types_of script) (record { number = 15; sig = plain [] }) [] (empty_applies (types_of script)))

newfun_is : Selects script events 13 [] 16 (C.Method 16)
newfun_is = selects_plain script refl events 13 [] 16 (C.Method 16) (only_choice (types_of script) (record { number = 16; sig = plain [] }) [] (empty_applies (types_of script)))

one_is : value_text script (V.Int (pos 1)) ≡ codes "1"
unfolding digits
one_is = fold-roll-Datum (List ℕ) (datum_step script) (D.Int (pos 1))

-- the line after the call of `tryeval` looks at world 16, and finds the new method
seen_by_next_line : Run (setting_of script events None 10) None trace (O.Value V.Nothing) (codes "1\n") 2 []
seen_by_next_line =
    let Ends : Outcome → State → Type 0 = IsEnd (O.Value V.Nothing) (codes "1\n") 2 [] in
    let end : Then = λ v s. Ends (O.Value v) s in
    let g : Setting = setting_of script events None 10 in
    let called : Caller = calls g Ends open_calls in
    let last : Then = λ v s. runs_item g Ends called (I.Do shown) s end end in
    let text : List ℕ → State → Type 0 = λ t s. end V.Nothing (prints s (t ++ codes "\n")) in
    let valued : Then = λ v s. text ([] ++ value_text script v) s in
    let own : Then = λ v s. valued v (with_scope s [] []) in
    let stop : own (V.Int (pos 1)) (bare [] 2) = record { is = refl; whole = refl; printed = ap (λ (t : List ℕ). t ++ codes "\n") one_is; counted_calls = refl; spawned_tasks = refl } in
    let literal = int_runs g Ends (calls g Ends 99999) (pos 1) 16 (bare [] 2) own own stop in
    let newfun : calls g Ends (suc 99999) 13 [] 16 (bare [] 1) valued = (C.Method 16, newfun_is, tt, literal) in
    let value = call_runs g Ends called 13 [] 16 (bare [] 1) end valued newfun in
    let piece = show_runs g Ends called (X.Call 13 []) 16 (bare [] 1) end (λ t s. text ([] ++ t) s) value in
    let line = print_runs g Ends called (Pi.Show (X.Call 13 []) ∷ []) true 16 (bare [] 1) end end piece in
    let third = do_runs g Ends called shown (bare (Look 16 3 ∷ []) 1) end end line in
    let within : Caller = calls g Ends 99999 in
    let after : Then = λ v s. last v (with_scope s [] []) in
    let inner : Then = λ v s. after v (with_env s []) in
    let s : State = bare (Look 15 2 ∷ Def 15 2 ∷ Look 16 3 ∷ []) 1 in
    let left : State = bare (Look 16 3 ∷ []) 1 in
    let rest : Then = λ v s1. stmts_run (runs_stmt g Ends within) (S.Do E.Nothing ∷ []) v 15 s1 after inner in
    let nothing = made (form_is g Ends within E.Nothing F.Nothing X.outs-Nothing 15 left after inner) third in
    let second = made (stmt_form_is g Ends within (S.Do E.Nothing) (F.Stmt::Do E.Nothing) (X.outs-Stmt::Do E.Nothing) 15 left after inner) nothing in
    let defined = made (item_form_is g Ends within (I.Define 15) (F.Define 15) (X.outs-Define 15) s after (λ v s1. rest v (with_scope s1 [] []))) (refl, second) in
    let first = made (form_is g Ends within evaluated (F.Eval (I.Define 15 ∷ [])) (X.outs-Eval (I.Define 15 ∷ [])) 15 s after rest) defined in
    let statement = made (stmt_form_is g Ends within (S.Do evaluated) (F.Stmt::Do evaluated) (X.outs-Stmt::Do evaluated) 15 s after rest) first in
    let block = made (form_is g Ends within body (F.Block (S.Do evaluated ∷ S.Do E.Nothing ∷ [])) (X.outs-Block (S.Do evaluated ∷ S.Do E.Nothing ∷ [])) 15 s after after) statement in
    let tryeval : calls g Ends (suc 99999) 12 [] 15 (bare (Look 15 2 ∷ Def 15 2 ∷ Look 16 3 ∷ []) 0) last = (C.Method 15, tryeval_is, tt, block) in
    let call = call_runs g Ends called 12 [] 15 (bare (Look 15 2 ∷ Def 15 2 ∷ Look 16 3 ∷ []) 0) end last tryeval in
    let item = do_runs g Ends called (X.Call 12 []) (bare (Look 15 2 ∷ Look 15 2 ∷ Def 15 2 ∷ Look 16 3 ∷ []) 0) end last call in
    record { ran = define_runs g Ends called 14 (first_state trace) end (λ v s1. runs_item g Ends called (I.Do (X.Call 12 [])) s1 end last) (refl, item) }

-- ---- `f() = 0`, `one()` evaluates `f() = 1` and `two()` evaluates `f() = 2`, each in a task; then `f()`

abbrev evaluates : ℕ → Expr
evaluates site = X.Block (S.Do (X.Eval (I.Define site ∷ [])) ∷ S.Do (E.Int (pos 0)) ∷ [])

abbrev nullary : ℕ → Expr → Site
nullary function body = record { function = function; sig = plain []; body = body }

abbrev racing : Program
racing = record {
  decls = [];
  functions = prelude_functions ++ codes "f" ∷ codes "one" ∷ codes "two" ∷ [];
  sites = prelude_sites ++ nullary 12 (E.Int (pos 0)) ∷ nullary 13 (evaluates 16) ∷ nullary 12 (E.Int (pos 1)) ∷ nullary 14 (evaluates 18) ∷ nullary 12 (E.Int (pos 2)) ∷ [];
  spawns = X.Call 13 [] ∷ X.Call 14 [] ∷ [];
  deletes = [];
  top = I.Define 14 ∷ I.Define 15 ∷ I.Define 17 ∷ I.Bind 0 (E.Spawn 0) ∷ I.Bind 1 (E.Spawn 1) ∷ I.Do (X.Fetch (E.Local 0)) ∷ I.Do (X.Fetch (E.Local 1)) ∷ I.Do (X.Call 12 []) ∷ [];
}

abbrev start : ℕ → Start
start place = record { spawn = place; env = []; bindings = []; world = 17 }

-- the two definitions in either order
abbrev raced : ℕ → ℕ → ℕ → ℕ → List Event
raced task site other later = Ev.Begin 10 ∷ Ev.Def 0 14 ∷ Ev.Def 0 15 ∷ Ev.Def 0 17 ∷ Ev.Spawn 0 1 (start 0) ∷ Ev.Spawn 0 2 (start 1) ∷ Ev.Def task site ∷ Ev.Def other later ∷ []

abbrev one_first : List Event
one_first = raced 1 16 2 18

abbrev two_first : List Event
two_first = raced 2 18 1 16

abbrev of_f : ℕ → Method
of_f number = record { number = number; sig = plain [] }

abbrev three : List Method
three = of_f 15 ∷ of_f 18 ∷ of_f 19 ∷ []

module _ (n : Table) where
  last_applies : Applies n three [] (of_f 19)
  last_applies = record { stands = (2, omega arith, refl); below = empty_applies n }

  past_last : (l : Method) → Contains three l → 19 < l.number → ⊥
  past_last l (zero, p, e) later = absurd (omega (arith, later, ap (λ (m : Method). m.number) e))
  past_last l (suc zero, p, e) later = absurd (omega (arith, later, ap (λ (m : Method). m.number) e))
  past_last l (suc (suc zero), p, e) later = absurd (omega (arith, later, ap (λ (m : Method). m.number) e))
  past_last l (suc (suc (suc k)), p, e) later = absurd (omega (arith, p))

  replaced : (number : ℕ) (c : Method) → number < 19 → of_f number ≡ c → IsCandidate n three [] c → ⊥
  replaced number c l e k =
      k.last (of_f 19) last_applies (omega (arith, l, ap (λ (m : Method). m.number) e)) (subst (λ (m : Method). SameSignature n m.sig (plain [])) e (empty_below n, empty_below n))

  lone : (c : Method) → IsCandidate n three [] c → (c.number ≡ 19 → ⊥) → Contains three c → ⊥
  lone c k other (zero, p, e) = replaced 15 c (omega arith) e k
  lone c k other (suc zero, p, e) = replaced 18 c (omega arith) e k
  lone c k other (suc (suc zero), p, e) = other (sym (ap (λ (m : Method). m.number) e))
  lone c k other (suc (suc (suc j)), p, e) = absurd (omega (arith, p))

  last_best : IsBest n three [] (of_f 19)
  last_best = record { candidate = record { applies = last_applies; last = λ l a later s. past_last l a.stands later }; below = λ c k other. absurd (lone c k other k.applies.stands) }

  last_chosen : ChoosesMethod n three [] 19
  last_chosen = (of_f 19, last_best, refl)

-- in world 19 the later definition is chosen
later_wins : Selects racing one_first 12 [] 19 (C.Method 19)
later_wins = selects_plain racing refl one_first 12 [] 19 (C.Method 19) (last_chosen (types_of racing))

later_wins_too : Selects racing two_first 12 [] 19 (C.Method 19)
later_wins_too = selects_plain racing refl two_first 12 [] 19 (C.Method 19) (last_chosen (types_of racing))

-- it is that of `two` in one history, and that of `one` in the other
two_is_later : site_of one_first 19 ≡ 18
two_is_later = refl

one_is_later : site_of two_first 19 ≡ 16
one_is_later = refl

-- the call of `f` at the end gives what the later definition says
call_gives_two : (Ends : Outcome → State → Type 0) (next : Then) → next (V.Int (pos 2)) (bare [] 1) → calls (setting_of racing one_first None 10) Ends 1 12 [] 19 (bare [] 0) next
call_gives_two Ends next h =
    let g : Setting = setting_of racing one_first None 10 in
    let own : Then = λ v s. next v (with_scope s [] []) in
    (C.Method 19, later_wins, tt, int_runs g Ends (calls g Ends 0) (pos 2) 19 (bare [] 1) own own h)

call_gives_one : (Ends : Outcome → State → Type 0) (next : Then) → next (V.Int (pos 1)) (bare [] 1) → calls (setting_of racing two_first None 10) Ends 1 12 [] 19 (bare [] 0) next
call_gives_one Ends next h =
    let g : Setting = setting_of racing two_first None 10 in
    let own : Then = λ v s. next v (with_scope s [] []) in
    (C.Method 19, later_wins_too, tt, int_runs g Ends (calls g Ends 0) (pos 1) 19 (bare [] 1) own own h)
