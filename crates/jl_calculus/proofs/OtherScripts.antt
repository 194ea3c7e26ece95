-- The definitions, computed on scripts that fail, and on the order of refusals.
use Rattle.std.proofs.Common.{◌≡◌, refl, ap, sym, ◌∙◌, subst, ℕ, zero, suc, pos, true, false, codes, List, [], ◌∷◌, ◌++◌, Option, Some, None, IsSome, arith}
use Rattle.std.specs.Fmt.{digits}
use Rattle.std.specs.List.{Contains}
use Rattle.jl_model.specs.declared.ty.Ty.TheVariants as T
use Rattle.jl_model.specs.declared.ty.Ty.TheOpen as L
use Rattle.jl_model.specs.declared.ty.Ty.TheViews.{rolls-Nominal}
use Rattle.jl_model.specs.declared.ty.Ty.TheFolds.{fold-roll-Ty}
use Rattle.jl_model.specs.Choice.{Method}
use Rattle.jl_program.specs.declared.tree.Expr.{Expr}
use Rattle.jl_program.specs.declared.tree.Piece.{Piece}
use Rattle.jl_program.specs.declared.tree.Expr.TheVariants as E
use Rattle.jl_program.specs.declared.tree.Expr.TheViews as X
use Rattle.jl_program.specs.declared.tree.Item.TheVariants as I
use Rattle.jl_program.specs.declared.tree.Piece.TheVariants as Pi
use Rattle.jl_program.specs.declared.tree.Site.{Site}
use Rattle.jl_program.specs.declared.tree.Program.{Program}
use Rattle.jl_program.specs.declared.value.Value.{Value}
use Rattle.jl_program.specs.declared.value.Value.TheVariants as V
use Rattle.jl_program.specs.declared.fault.Fault.TheVariants as F
use Rattle.jl_calculus.specs.declared.history.Outcome.{Outcome}
use Rattle.jl_calculus.specs.declared.history.Outcome.TheVariants as O
use Rattle.jl_calculus.specs.declared.history.Event.{Event}
use Rattle.jl_calculus.specs.declared.history.Event.TheVariants as Ev
use Rattle.jl_calculus.specs.declared.history.TraceItem.{TraceItem}
use Rattle.jl_calculus.specs.declared.history.TraceItem.TheVariants.{Look, Def}
use Rattle.jl_calculus.specs.declared.history.Record.{Record}
use Rattle.jl_program.specs.declared.choice.Choice.TheVariants as C
use Rattle.jl_program.specs.Prelude.{prelude_functions, prelude_sites, plain, two, int64}
use Rattle.jl_program.specs.Text.{type_text, type_step, value_text}
use Rattle.jl_calculus.specs.Past.{done_of}
use Rattle.jl_calculus.specs.Legal.{IsLegal, text_of, status_of}
use Rattle.jl_program.specs.Scope.{types_of}
use Rattle.jl_calculus.specs.World.{Selects}
use Rattle.jl_calculus.specs.Run.{Setting, setting_of, State, Then, IsEnd, Caller, Run, calls, runs, runs_item, runs_piece, texts_run, prints, with_scope, first_state, open_calls}
use Rattle.jl_calculus.proofs.Forms.{int_runs, local_runs, call_runs, print_runs, show_runs, text_runs, define_runs, do_runs}
use Rattle.jl_calculus.proofs.SelectLemmas.{selects_plain}
use Rattle.jl_program.proofs.FirstChoices.{only_choice, any_applies, two_apply}

int64-text : (P : Program) → P.decls ≡ [] → type_text P int64 ≡ codes "Int64"
int64-text P e = ap (type_text P) (sym (rolls-Nominal 4 [])) ∙ fold-roll-Ty (List ℕ) (type_step P) (L.Nominal 4 [])

nowhere : (m : Method) → Contains [] m → ⊥
nowhere m (k, p, e) = absurd (omega (arith, p))

-- a state without slots
abbrev bare : List TraceItem → ℕ → List ℕ → State
bare left made out = record { env = []; bindings = []; left = left; calls = made; out = out; starts = [] }

-- ---- `f(1)`, and then `f(x) = x`: there is no method yet

abbrev identity : Site
identity = record { function = 12; sig = plain (T.Any ∷ []); body = E.Local 0 }

abbrev f_of_one : Expr
f_of_one = X.Call 12 (E.Int (pos 1) ∷ [])

abbrev early : Program
early = record { decls = []; functions = prelude_functions ++ codes "f" ∷ []; sites = prelude_sites ++ identity ∷ []; spawns = []; deletes = []; top = I.Do f_of_one ∷ I.Define 14 ∷ [] }

abbrev no_method : Outcome
no_method = O.Error (F.NoMethod 12 (int64 ∷ []) 14)

abbrev early_end : Record
early_end = record { trace = Look 14 1 ∷ []; outcome = no_method; output = []; calls = 1 }

abbrev begin : List Event
begin = Ev.Begin 10000000 ∷ []

abbrev early_history : List Event
early_history = begin ++ Ev.Done 0 early_end ∷ []

early_text : text_of early early_history ≡ codes "ERROR: MethodError: no method matching f(::Int64) in world 14\n"
unfolding digits
early_text = rw (int64-text early refl) refl

early_status : status_of early_history ≡ 1
early_status = refl

none_selected : Selects early begin 12 (int64 ∷ []) 14 C.None
none_selected = selects_plain early refl begin 12 (int64 ∷ []) 14 C.None (λ m h. nowhere m h.applies.stands)

early_run : (fuel : ℕ) → 10000000 ≡ fuel → Run (setting_of early begin None fuel) None (Look 14 1 ∷ []) no_method [] 1 []
early_run fuel e =
    let Ends : Outcome → State → Type 0 = IsEnd no_method [] 1 [] in
    let g : Setting = setting_of early begin None 10000000 in
    let called : Caller = calls g Ends open_calls in
    let back : Then = λ v s. Ends (O.Value v) s in
    let next : Then = λ v s. runs_item g Ends called (I.Define 14) s back back in
    let end : Ends no_method (bare [] 1 []) = record { is = refl; whole = refl; printed = refl; counted_calls = refl; spawned_tasks = refl } in
    let call : calls g Ends (suc 99999) 12 (V.Int (pos 1) ∷ []) 14 (bare [] 0 []) next = (C.None, none_selected, tt, end) in
    let argument = int_runs g Ends called (pos 1) 14 (bare [] 0 []) back (λ v s. called 12 (v ∷ []) 14 s next) call in
    let value = call_runs g Ends called 12 (E.Int (pos 1) ∷ []) 14 (bare [] 0 []) back next argument in
    let first = do_runs g Ends called f_of_one (first_state (Look 14 1 ∷ [])) back next value in
    subst (λ (n : ℕ). Run (setting_of early begin None n) None (Look 14 1 ∷ []) no_method [] 1 []) e (record { ran = first })

abbrev or_zero : Option ℕ → ℕ
or_zero None = 0
or_zero (Some n) = n

early_legal : IsLegal early early_history
early_legal = record {
  so_far = record {
    stand = record { begun = refl; come = (record { nothing_before = refl; allowed = omega arith }, (record { begun = refl; started = omega arith; going = refl }, tt)) };
    traced = record { traces = (tt, (record { true_items = ((omega arith, refl), tt); in_order = (omega arith, omega arith) }, tt)); own = (tt, (refl, tt)) };
    runs = (tt, (λ fuel e. early_run fuel (ap or_zero e), tt));
  };
  finished = λ task h. subst (λ (t : ℕ). IsSome (done_of t early_history)) (let z : 0 ≡ task = omega (arith, h) in z) refl;
}

-- ---- the order of refusals of a call

module _ (P : Program) (es : List Event) (Ends : Outcome → State → Type 0) (left : List TraceItem) (out : List ℕ) (next : Then) (f w : ℕ) (vs : List Value) where
  abbrev g : Setting
  g = setting_of P es None 5

  -- no fuel is left: whatever stands otherwise, also where no call may be open
  fuel_first : (room : ℕ) → Ends (O.Error (F.FuelSpent 5)) (bare left 5 out) → calls g Ends room f vs w (bare left 5 out) next
  fuel_first zero h = h
  fuel_first (suc room) h = h

  fuel_only : (room : ℕ) → calls g Ends room f vs w (bare left 5 out) next → Ends (O.Error (F.FuelSpent 5)) (bare left 5 out)
  fuel_only zero h = h
  fuel_only (suc room) h = h

  -- no call may be open: the call is counted, and no method is asked for
  stack_next : Ends (O.Error F.StackLimit) (bare left 5 out) → calls g Ends 0 f vs w (bare left 4 out) next
  stack_next h = h

  stack_only : calls g Ends 0 f vs w (bare left 4 out) next → Ends (O.Error F.StackLimit) (bare left 5 out)
  stack_only h = h

-- ---- `print("a", div(1, 0))`: nothing is written before all is there

abbrev division : Expr
division = X.Call 3 (E.Int (pos 1) ∷ E.Int (pos 0) ∷ [])

abbrev pieces : List Piece
pieces = Pi.Text (codes "a") ∷ Pi.Show division ∷ []

abbrev failing : Program
failing = record { decls = []; functions = prelude_functions; sites = prelude_sites; spawns = []; deletes = []; top = I.Do (X.Print pieces false) ∷ [] }

div_selected : Selects failing begin 3 two 14 (C.Method 4)
div_selected = selects_plain failing refl begin 3 two 14 (C.Method 4) (only_choice (types_of failing) (record { number = 4; sig = plain two }) two (two_apply (types_of failing)))

failing_run : Run (setting_of failing begin None 10000000) None (Look 14 1 ∷ []) (O.Error F.DivideError) [] 1 []
failing_run =
    let Ends : Outcome → State → Type 0 = IsEnd (O.Error F.DivideError) [] 1 [] in
    let g : Setting = setting_of failing begin None 10000000 in
    let called : Caller = calls g Ends open_calls in
    let back : Then = λ v s. Ends (O.Value v) s in
    let s : State = bare [] 0 [] in
    let printed : List ℕ → State → Type 0 = λ t s1. back V.Nothing (prints s1 (t ++ [])) in
    let later : List ℕ → State → Type 0 = λ t s1. printed (codes "a" ++ t) s1 in
    let valued : Then = λ v s1. later (value_text failing v) s1 in
    let end : Ends (O.Error F.DivideError) (bare [] 1 []) = record { is = refl; whole = refl; printed = refl; counted_calls = refl; spawned_tasks = refl } in
    let call : calls g Ends (suc 99999) 3 (V.Int (pos 1) ∷ V.Int (pos 0) ∷ []) 14 s valued = (C.Method 4, div_selected, tt, end) in
    let second = int_runs g Ends called (pos 0) 14 s back (λ v s1. called 3 (V.Int (pos 1) ∷ v ∷ []) 14 s1 valued) call in
    let first = int_runs g Ends called (pos 1) 14 s back (λ v s1. runs g Ends called (E.Int (pos 0)) 14 s1 back (λ u s2. called 3 (v ∷ u ∷ []) 14 s2 valued)) second in
    let value = call_runs g Ends called 3 (E.Int (pos 1) ∷ E.Int (pos 0) ∷ []) 14 s back valued first in
    let shown = show_runs g Ends called division 14 s back later value in
    let text = text_runs g Ends called (codes "a") 14 s back (λ t s1. texts_run (runs_piece g Ends called) (Pi.Show division ∷ []) ([] ++ t) 14 s1 back printed) shown in
    let line = print_runs g Ends called pieces false 14 s back back text in
    record { ran = do_runs g Ends called (X.Print pieces false) (first_state (Look 14 1 ∷ [])) back back line }

-- ---- `f(x) = x + 1`, and then `println(f(2))`, with fuel for one call

abbrev adder : Site
adder = record { function = 12; sig = plain (T.Any ∷ []); body = X.Call 0 (E.Local 0 ∷ E.Int (pos 1) ∷ []) }

abbrev shown_call : Expr
shown_call = X.Print (Pi.Show (X.Call 12 (E.Int (pos 2) ∷ [])) ∷ []) true

abbrev first_script : Program
first_script = record { decls = []; functions = prelude_functions ++ codes "f" ∷ []; sites = prelude_sites ++ adder ∷ []; spawns = []; deletes = []; top = I.Define 14 ∷ I.Do shown_call ∷ [] }

abbrev spent : Outcome
spent = O.Error (F.FuelSpent 1)

abbrev trace : List TraceItem
trace = Look 14 1 ∷ Def 14 1 ∷ Look 15 2 ∷ []

abbrev defined_f : List Event
defined_f = Ev.Begin 1 ∷ Ev.Def 0 14 ∷ []

spent_text : text_of first_script (defined_f ++ Ev.Done 0 (record { trace = trace; outcome = spent; output = []; calls = 1 }) ∷ []) ≡ codes "ERROR: FuelSpent: 1 calls\n"
unfolding digits
spent_text = refl

f_selected : Selects first_script defined_f 12 (int64 ∷ []) 15 (C.Method 15)
f_selected = selects_plain first_script refl defined_f 12 (int64 ∷ []) 15 (C.Method 15) (only_choice (types_of first_script) (record { number = 15; sig = adder.sig }) (int64 ∷ []) (any_applies (types_of first_script)))

-- the second call is not counted, and its method is not asked for
spent_run : Run (setting_of first_script defined_f None 1) None trace spent [] 1 []
spent_run =
    let Ends : Outcome → State → Type 0 = IsEnd spent [] 1 [] in
    let g : Setting = setting_of first_script defined_f None 1 in
    let called : Caller = calls g Ends open_calls in
    let back : Then = λ v s. Ends (O.Value v) s in
    let s2 : State = bare [] 0 [] in
    let printed : List ℕ → State → Type 0 = λ t s. back V.Nothing (prints s (t ++ codes "\n")) in
    let shown : List ℕ → State → Type 0 = λ t s. printed ([] ++ t) s in
    let valued : Then = λ v s. shown (value_text first_script v) s in
    let inner : Then = λ v s. valued v (with_scope s [] []) in
    let inside : State = record { env = V.Int (pos 2) ∷ []; bindings = []; left = []; calls = 1; out = []; starts = [] } in
    let within : Caller = calls g Ends (suc 99998) in
    let end : Ends spent inside = record { is = refl; whole = refl; printed = refl; counted_calls = refl; spawned_tasks = refl } in
    let last : within 0 (V.Int (pos 2) ∷ V.Int (pos 1) ∷ []) 15 inside inner = end in
    let second = int_runs g Ends within (pos 1) 15 inside inner (λ v s. within 0 (V.Int (pos 2) ∷ v ∷ []) 15 s inner) last in
    let first = local_runs g Ends within 0 15 inside inner (λ v s. runs g Ends within (E.Int (pos 1)) 15 s inner (λ u t. within 0 (v ∷ u ∷ []) 15 t inner)) second in
    let body = call_runs g Ends within 0 (E.Local 0 ∷ E.Int (pos 1) ∷ []) 15 inside inner inner first in
    let call : calls g Ends (suc 99999) 12 (V.Int (pos 2) ∷ []) 15 s2 valued = (C.Method 15, f_selected, tt, body) in
    let argument = int_runs g Ends called (pos 2) 15 s2 back (λ v s. called 12 (v ∷ []) 15 s valued) call in
    let value = call_runs g Ends called 12 (E.Int (pos 2) ∷ []) 15 s2 back valued argument in
    let piece = show_runs g Ends called (X.Call 12 (E.Int (pos 2) ∷ [])) 15 s2 back shown value in
    let line = print_runs g Ends called (Pi.Show (X.Call 12 (E.Int (pos 2) ∷ [])) ∷ []) true 15 s2 back back piece in
    let item = do_runs g Ends called shown_call (bare (Look 15 2 ∷ []) 0 []) back back line in
    record { ran = define_runs g Ends called 14 (first_state trace) back (λ v s. runs_item g Ends called (I.Do shown_call) s back back) (refl, item) }
