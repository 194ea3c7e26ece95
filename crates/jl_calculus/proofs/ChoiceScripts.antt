-- Whole scripts with two methods of one name: `g(x::Int64) = 1`, `g(x) = 2`, and then `println(g(0))`; and `f(x::Int64, y) = 1`,
-- `f(x, y::Int64) = 2`, and then `println(f(1, 2))`.
use Rattle.std.proofs.Common.{◌≡◌, ◌∙◌, refl, sym, ap, ℕ, suc, pos, true, codes, List, [], ◌∷◌, ◌++◌, None}
use Rattle.std.specs.Fmt.{digits}
use Rattle.jl_model.specs.declared.ty.Ty.{Ty}
use Rattle.jl_model.specs.declared.ty.Ty.TheVariants as T
use Rattle.jl_model.specs.declared.ty.Ty.TheOpen as L
use Rattle.jl_model.specs.declared.ty.Ty.TheViews.{rolls-Nominal}
use Rattle.jl_model.specs.declared.ty.Ty.TheFolds.{fold-roll-Ty}
use Rattle.jl_program.specs.declared.choice.Choice.TheVariants as C
use Rattle.jl_program.specs.declared.datum.Datum.TheOpen as D
use Rattle.jl_program.specs.declared.datum.Datum.TheFolds.{fold-roll-Datum}
use Rattle.jl_program.specs.declared.fault.Fault.TheVariants as Fa
use Rattle.jl_program.specs.declared.tree.Expr.{Expr}
use Rattle.jl_program.specs.declared.tree.Expr.TheVariants as E
use Rattle.jl_program.specs.declared.tree.Expr.TheViews as X
use Rattle.jl_program.specs.declared.tree.Item.TheVariants as I
use Rattle.jl_program.specs.declared.tree.Piece.TheVariants as Pi
use Rattle.jl_program.specs.declared.tree.Program.{Program}
use Rattle.jl_program.specs.declared.value.Value.TheVariants as V
use Rattle.jl_program.specs.Prelude.{plain, int64, two, prelude_functions, prelude_sites}
use Rattle.jl_program.specs.Scope.{types_of}
use Rattle.jl_program.specs.Text.{type_text, type_step, value_text, datum_step}
use Rattle.jl_program.proofs.OtherChoices.{left, right, chooses_special, chooses_ambiguous}
use Rattle.jl_calculus.specs.declared.history.Event.{Event}
use Rattle.jl_calculus.specs.declared.history.Event.TheVariants as Ev
use Rattle.jl_calculus.specs.declared.history.Outcome.{Outcome}
use Rattle.jl_calculus.specs.declared.history.Outcome.TheVariants as O
use Rattle.jl_calculus.specs.declared.history.TraceItem.{TraceItem}
use Rattle.jl_calculus.specs.declared.history.TraceItem.TheVariants.{Look, Def}
use Rattle.jl_calculus.specs.Legal.{text_of}
use Rattle.jl_calculus.specs.Run.{Setting, setting_of, State, Then, IsEnd, Caller, Run, calls, runs, runs_item, prints, with_scope, first_state, open_calls}
use Rattle.jl_calculus.specs.World.{Selects}
use Rattle.jl_calculus.proofs.Forms.{int_runs, call_runs, print_runs, show_runs, define_runs, do_runs}
use Rattle.jl_calculus.proofs.WorldScripts.{bare}
use Rattle.jl_calculus.proofs.SelectLemmas.{selects_plain}

-- two methods with these parameters, and then the text of this call
abbrev shown : Expr → Expr
shown call = X.Print (Pi.Show call ∷ []) true

abbrev script : List Ty → List Ty → Expr → Program
script first second call = record {
  decls = [];
  functions = prelude_functions ++ codes "f" ∷ [];
  sites = prelude_sites ++ record { function = 12; sig = plain first; body = E.Int (pos 1) } ∷ record { function = 12; sig = plain second; body = E.Int (pos 2) } ∷ [];
  spawns = [];
  deletes = [];
  top = I.Define 14 ∷ I.Define 15 ∷ I.Do (shown call) ∷ [];
}

abbrev events : List Event
events = Ev.Begin 10 ∷ Ev.Def 0 14 ∷ Ev.Def 0 15 ∷ []

abbrev trace : List TraceItem
trace = Look 14 1 ∷ Def 14 1 ∷ Look 15 2 ∷ Def 15 2 ∷ Look 16 3 ∷ []

-- ---- the one for integers is chosen

abbrev of_zero : Expr
of_zero = X.Call 12 (E.Int (pos 0) ∷ [])

abbrev special : Program
special = script (int64 ∷ []) (T.Any ∷ []) of_zero

first_selected : Selects special events 12 (int64 ∷ []) 16 (C.Method 15)
first_selected = selects_plain special refl events 12 (int64 ∷ []) 16 (C.Method 15) (chooses_special (types_of special))

one_is : value_text special (V.Int (pos 1)) ≡ codes "1"
unfolding digits
one_is = fold-roll-Datum (List ℕ) (datum_step special) (D.Int (pos 1))

prints_one : Run (setting_of special events None 10) None trace (O.Value V.Nothing) (codes "1\n") 1 []
prints_one =
    let Ends : Outcome → State → Type 0 = IsEnd (O.Value V.Nothing) (codes "1\n") 1 [] in
    let end : Then = λ v s. Ends (O.Value v) s in
    let g : Setting = setting_of special events None 10 in
    let called : Caller = calls g Ends open_calls in
    let text : List ℕ → State → Type 0 = λ t s. end V.Nothing (prints s (t ++ codes "\n")) in
    let valued : Then = λ v s. text ([] ++ value_text special v) s in
    let own : Then = λ v s. valued v (with_scope s [] []) in
    let inside : State = record { env = V.Int (pos 0) ∷ []; bindings = []; left = []; calls = 1; out = []; starts = [] } in
    let stop : own (V.Int (pos 1)) inside = record { is = refl; whole = refl; printed = ap (λ (t : List ℕ). t ++ codes "\n") one_is; counted_calls = refl; spawned_tasks = refl } in
    let literal = int_runs g Ends (calls g Ends 99999) (pos 1) 16 inside own own stop in
    let call : calls g Ends (suc 99999) 12 (V.Int (pos 0) ∷ []) 16 (bare [] 0) valued = (C.Method 15, first_selected, tt, literal) in
    let argument = int_runs g Ends called (pos 0) 16 (bare [] 0) end (λ v s. called 12 (v ∷ []) 16 s valued) call in
    let value = call_runs g Ends called 12 (E.Int (pos 0) ∷ []) 16 (bare [] 0) end valued argument in
    let piece = show_runs g Ends called of_zero 16 (bare [] 0) end (λ t s. text ([] ++ t) s) value in
    let line = print_runs g Ends called (Pi.Show of_zero ∷ []) true 16 (bare [] 0) end end piece in
    let third : Then = λ v s. runs_item g Ends called (I.Do (shown of_zero)) s end end in
    let item = do_runs g Ends called (shown of_zero) (bare (Look 16 3 ∷ []) 0) end end line in
    let second = define_runs g Ends called 15 (bare (Look 15 2 ∷ Def 15 2 ∷ Look 16 3 ∷ []) 0) end third (refl, item) in
    record { ran = define_runs g Ends called 14 (first_state trace) end (λ v s. runs_item g Ends called (I.Define 15) s end third) (refl, second) }

-- ---- neither is more specific

abbrev of_two : Expr
of_two = X.Call 12 (E.Int (pos 1) ∷ E.Int (pos 2) ∷ [])

abbrev crossed : Program
crossed = script left right of_two

none_best : Selects crossed events 12 two 16 (C.Ambiguous 15 16)
none_best = selects_plain crossed refl events 12 two 16 (C.Ambiguous 15 16) (chooses_ambiguous (types_of crossed))

abbrev ambiguous : Outcome
ambiguous = O.Error (Fa.Ambiguous 12 two 15 16)

is_ambiguous : Run (setting_of crossed events None 10) None trace ambiguous [] 1 []
is_ambiguous =
    let Ends : Outcome → State → Type 0 = IsEnd ambiguous [] 1 [] in
    let end : Then = λ v s. Ends (O.Value v) s in
    let g : Setting = setting_of crossed events None 10 in
    let called : Caller = calls g Ends open_calls in
    let text : List ℕ → State → Type 0 = λ t s. end V.Nothing (prints s (t ++ codes "\n")) in
    let valued : Then = λ v s. text ([] ++ value_text crossed v) s in
    let stop : Ends ambiguous (bare [] 1) = record { is = refl; whole = refl; printed = refl; counted_calls = refl; spawned_tasks = refl } in
    let call : calls g Ends (suc 99999) 12 (V.Int (pos 1) ∷ V.Int (pos 2) ∷ []) 16 (bare [] 0) valued = (C.Ambiguous 15 16, none_best, tt, stop) in
    let last = int_runs g Ends called (pos 2) 16 (bare [] 0) end (λ v s. called 12 (V.Int (pos 1) ∷ v ∷ []) 16 s valued) call in
    let first = int_runs g Ends called (pos 1) 16 (bare [] 0) end (λ v s. runs g Ends called (E.Int (pos 2)) 16 s end (λ u s1. called 12 (v ∷ u ∷ []) 16 s1 valued)) last in
    let value = call_runs g Ends called 12 (E.Int (pos 1) ∷ E.Int (pos 2) ∷ []) 16 (bare [] 0) end valued first in
    let piece = show_runs g Ends called of_two 16 (bare [] 0) end (λ t s. text ([] ++ t) s) value in
    let line = print_runs g Ends called (Pi.Show of_two ∷ []) true 16 (bare [] 0) end end piece in
    let third : Then = λ v s. runs_item g Ends called (I.Do (shown of_two)) s end end in
    let item = do_runs g Ends called (shown of_two) (bare (Look 16 3 ∷ []) 0) end end line in
    let second = define_runs g Ends called 15 (bare (Look 15 2 ∷ Def 15 2 ∷ Look 16 3 ∷ []) 0) end third (refl, item) in
    record { ran = define_runs g Ends called 14 (first_state trace) end (λ v s. runs_item g Ends called (I.Define 15) s end third) (refl, second) }

int64-text : type_text crossed int64 ≡ codes "Int64"
int64-text = ap (type_text crossed) (sym (rolls-Nominal 4 [])) ∙ fold-roll-Ty (List ℕ) (type_step crossed) (L.Nominal 4 [])

ambiguous_text : text_of crossed (events ++ Ev.Done 0 (record { trace = trace; outcome = ambiguous; output = []; calls = 1 }) ∷ [])
    ≡ codes "ERROR: MethodError: f(::Int64, ::Int64) is ambiguous between definitions 15 and 16\n"
unfolding digits
ambiguous_text = rw (int64-text) refl
