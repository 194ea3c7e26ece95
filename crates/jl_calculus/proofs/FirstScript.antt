-- The definitions, computed on a first script: `f(x) = x + 1`, and then `println(f(2))`.
use Rattle.std.proofs.Common.{◌≡◌, refl, ap, sym, ◌∙◌, subst, ℕ, suc, ◌<◌, ℤ, pos, negsuc, Bool, true, false, codes, List, [], ◌∷◌, ◌++◌, map, length, get_or, Option, Some, None, IsSome, true≢false, arith}
use Rattle.jl_model.specs.declared.ty.Ty.{Ty}
use Rattle.jl_model.specs.declared.ty.Ty.TheVariants as T
use Rattle.jl_model.specs.declared.ty.Ty.TheOpen as L
use Rattle.jl_model.specs.declared.ty.Ty.TheViews.{rolls-Any, rolls-Union, rolls-Tuple, rolls-Nominal}
use Rattle.jl_model.specs.declared.ty.Ty.TheViews as W
use Rattle.jl_model.specs.declared.ty.Ty.TheFolds.{fold-roll-Ty}
use Rattle.jl_model.specs.Ancestors.{named}
use Rattle.std.specs.Fmt.{digits}
use Rattle.jl_program.specs.declared.datum.Datum.{Datum}
use Rattle.jl_program.specs.declared.datum.Datum.TheOpen as D
use Rattle.jl_program.specs.declared.datum.Datum.TheFolds.{fold-roll-Datum}
use Rattle.jl_program.specs.declared.tree.Expr.TheVariants as E
use Rattle.jl_program.specs.declared.tree.Item.TheVariants as I
use Rattle.jl_program.specs.declared.tree.Piece.TheVariants as Pi
use Rattle.jl_program.specs.declared.value.Value.TheVariants as V
use Rattle.jl_program.specs.declared.fault.Fault.{Fault}
use Rattle.jl_program.specs.declared.fault.Fault.TheVariants as F
use Rattle.jl_calculus.specs.declared.history.Outcome.{Outcome}
use Rattle.jl_calculus.specs.declared.history.Outcome.TheVariants as O
use Rattle.jl_calculus.specs.declared.history.Event.{Event}
use Rattle.jl_calculus.specs.declared.history.Event.TheVariants as Ev
use Rattle.jl_calculus.specs.declared.history.TraceItem.{TraceItem}
use Rattle.jl_calculus.specs.declared.history.TraceItem.TheVariants.{Look, Def}
use Rattle.jl_calculus.specs.declared.history.Record.{Record}
use Rattle.jl_program.specs.Prelude.{plain, two, int64, bool}
use Rattle.jl_calculus.specs.Host.{host_meaning}
use Rattle.jl_program.specs.Text.{fault_text, error_line, value_text, datum_text, datum_step, type_text, type_step, type_name, in_braces, arguments, tuple_text}
use Rattle.jl_program.specs.Meaning.{datum}
use Rattle.jl_program.specs.declared.tree.Expr.{Expr}
use Rattle.jl_program.specs.declared.tree.Piece.{Piece}
use Rattle.jl_program.specs.declared.tree.Expr.TheViews as X
use Rattle.jl_program.specs.declared.value.Value.{Value}
use Rattle.jl_program.specs.declared.choice.Choice.{Choice}
use Rattle.jl_program.specs.declared.tree.Start.{Start}
use Rattle.jl_program.specs.declared.choice.Choice.TheVariants as C
use Rattle.jl_calculus.specs.Run.{Setting, setting_of, State, chosen, Then, IsEnd, Caller, Run, calls, runs, runs_item, prints, with_scope, first_state, open_calls}
use Rattle.jl_program.specs.Scope.{types_of}
use Rattle.jl_calculus.specs.World.{world_of, site_of, Selects}
use Rattle.jl_model.specs.Choice.{Method}
use Rattle.std.specs.List.{Contains}
use Rattle.jl_program.proofs.FirstProgram.{f_site, P}
use Rattle.jl_program.proofs.FirstChoices.{only_choice, no_other_choice, any_applies, two_apply}
use Rattle.jl_calculus.proofs.Forms.{int_runs, local_runs, call_runs, print_runs, show_runs, define_runs, do_runs, from_int, from_local, from_call, from_print, from_show, from_define, from_do}
use Rattle.jl_calculus.specs.Past.{own_events, own_items, own_starts, IsInOrder, IsTrueOf, done_of, tasks_of}
use Rattle.jl_calculus.specs.Legal.{AreTrueOf, first_place, fuel_of, IsRunning, MayCome, HasTrueTrace, HasRun, IsLegal, text_of, status_of}
use Rattle.jl_calculus.proofs.SelectLemmas.{selects_plain, plain_selects}

abbrev pub trace : List TraceItem
trace = Look 14 1 ∷ Def 14 1 ∷ Look 15 2 ∷ []

abbrev ended : Record
ended = record { trace = trace; outcome = O.Value V.Nothing; output = codes "3\n"; calls = 2 }

-- what stands before the end of the root
abbrev pub before : List Event
before = Ev.Begin 10000000 ∷ Ev.Def 0 14 ∷ []

abbrev H : List Event
H = before ++ Ev.Done 0 ended ∷ []

text : text_of P H ≡ codes "3\n"
text = refl

status : status_of H ≡ 0
status = refl

world : world_of H ≡ 15
world = refl

-- ---- what the operations of the prelude mean

abbrev least : ℤ
least = negsuc 9223372036854775807

abbrev most : ℤ
most = pos 9223372036854775807

abbrev int : ℤ → Outcome
int n = O.Value (V.Int n)

abbrev truth : Bool → Outcome
truth b = O.Value (V.Bool b)

add_wraps : host_meaning 0 most (pos 1) ≡ int least
add_wraps = refl

sub_wraps : host_meaning 1 least (pos 1) ≡ int most
sub_wraps = refl

mul_wraps : host_meaning 2 most (pos 2) ≡ int (negsuc 1)
mul_wraps = refl

div_towards_zero : host_meaning 3 (negsuc 6) (pos 2) ≡ int (negsuc 2)
div_towards_zero = refl

div_negatives : host_meaning 3 (negsuc 6) (negsuc 1) ≡ int (pos 3)
div_negatives = refl

div_by_zero : host_meaning 3 (pos 7) (pos 0) ≡ O.Error F.DivideError
div_by_zero = refl

div_least : host_meaning 3 least (negsuc 0) ≡ O.Error F.DivideError
div_least = refl

div_next : host_meaning 3 (negsuc 9223372036854775806) (negsuc 0) ≡ int most
div_next = refl

rem_sign : host_meaning 4 (negsuc 6) (pos 2) ≡ int (negsuc 0)
rem_sign = refl

rem_positive : host_meaning 4 (pos 7) (negsuc 1) ≡ int (pos 1)
rem_positive = refl

rem_even : host_meaning 4 (negsuc 7) (pos 2) ≡ int (pos 0)
rem_even = refl

rem_least : host_meaning 4 least (negsuc 0) ≡ int (pos 0)
rem_least = refl

rem_by_zero : host_meaning 4 least (pos 0) ≡ O.Error F.DivideError
rem_by_zero = refl

neg_wraps : host_meaning 5 least (pos 0) ≡ int least
neg_wraps = refl

neg_zero : host_meaning 5 (pos 0) (pos 0) ≡ int (pos 0)
neg_zero = refl

equals_no : host_meaning 6 least most ≡ truth false
equals_no = refl

differs : host_meaning 7 (pos 1) (pos 2) ≡ truth true
differs = refl

less : host_meaning 8 least (pos 0) ≡ truth true
less = refl

less_not : host_meaning 8 (pos 2) (pos 2) ≡ truth false
less_not = refl

at_most : host_meaning 9 (pos 2) (pos 2) ≡ truth true
at_most = refl

greater : host_meaning 10 (pos 2) (negsuc 2) ≡ truth true
greater = refl

greater_not : host_meaning 10 (pos 2) (pos 2) ≡ truth false
greater_not = refl

at_least : host_meaning 11 (pos 2) (pos 2) ≡ truth true
at_least = refl

not_true : host_meaning 12 (pos 1) (pos 0) ≡ truth false
not_true = refl

not_false : host_meaning 12 (pos 0) (pos 0) ≡ truth true
not_false = refl

both_false : host_meaning 13 (pos 0) (pos 0) ≡ truth true
both_false = refl

-- ---- texts

-- the text of a type of each form
any-text : type_text P T.Any ≡ codes "Any"
any-text = ap (type_text P) (sym rolls-Any) ∙ fold-roll-Ty (List ℕ) (type_step P) L.Any

union-text : (ts : List Ty) → type_text P (W.Union ts) ≡ codes "Union" ++ in_braces (map (type_text P) ts)
union-text ts = ap (type_text P) (sym (rolls-Union ts)) ∙ fold-roll-Ty (List ℕ) (type_step P) (L.Union ts)

tuple-text : (ts : List Ty) → type_text P (W.Tuple ts) ≡ codes "Tuple" ++ in_braces (map (type_text P) ts)
tuple-text ts = ap (type_text P) (sym (rolls-Tuple ts)) ∙ fold-roll-Ty (List ℕ) (type_step P) (L.Tuple ts)

nominal-text : (n : ℕ) (ts : List Ty) → type_text P (W.Nominal n ts) ≡ type_name P n ++ arguments (map (type_text P) ts)
nominal-text n ts = ap (type_text P) (sym (rolls-Nominal n ts)) ∙ fold-roll-Ty (List ℕ) (type_step P) (L.Nominal n ts)

abbrev nothing : Ty
nothing = named 6

int64-text : type_text P int64 ≡ codes "Int64"
int64-text = nominal-text 4 []

bool-text : type_text P bool ≡ codes "Bool"
bool-text = nominal-text 5 []

nothing-text : type_text P nothing ≡ codes "Nothing"
nothing-text = nominal-text 6 []

none-text : type_text P (W.Union []) ≡ codes "Union{}"
none-text = union-text []

unit-text : type_text P (W.Tuple []) ≡ codes "Tuple{}"
unit-text = tuple-text []

single-text : type_text P (W.Tuple (int64 ∷ [])) ≡ codes "Tuple{Int64}"
single-text = tuple-text (int64 ∷ []) ∙ ap (λ t. codes "Tuple" ++ in_braces (t ∷ [])) int64-text

pair-text : type_text P (W.Tuple (int64 ∷ bool ∷ [])) ≡ codes "Tuple{Int64, Bool}"
pair-text = tuple-text (int64 ∷ bool ∷ []) ∙ rw (int64-text, bool-text) refl

either-text : type_text P (W.Union (int64 ∷ nothing ∷ [])) ≡ codes "Union{Int64, Nothing}"
either-text = union-text (int64 ∷ nothing ∷ []) ∙ rw (int64-text, nothing-text) refl

no_method : fault_text P (F.NoMethod 12 (int64 ∷ bool ∷ []) 16) ≡ codes "MethodError: no method matching f(::Int64, ::Bool) in world 16"
unfolding digits
no_method = rw (int64-text, bool-text) refl

no_method_of_none : fault_text P (F.NoMethod 12 [] 15) ≡ codes "MethodError: no method matching f() in world 15"
unfolding digits
no_method_of_none = refl

rem_of : fault_text P (F.NoMethod 4 (bool ∷ int64 ∷ []) 14) ≡ codes "MethodError: no method matching rem(::Bool, ::Int64) in world 14"
unfolding digits
rem_of = rw (int64-text, bool-text) refl

ambiguous : fault_text P (F.Ambiguous 12 (int64 ∷ int64 ∷ []) 15 16) ≡ codes "MethodError: f(::Int64, ::Int64) is ambiguous between definitions 15 and 16"
unfolding digits
ambiguous = rw int64-text refl

divide_error : fault_text P F.DivideError ≡ codes "DivideError: integer division error"
divide_error = refl

field_type : fault_text P (F.FieldType int64 (codes "x") bool) ≡ codes "TypeError: field x of Int64 got Bool"
field_type = rw (int64-text, bool-text) refl

bad_parameter : fault_text P (F.BadParameter (W.Tuple (int64 ∷ bool ∷ []))) ≡ codes "TypeError: Tuple{Int64, Bool} breaks a declared bound"
bad_parameter = rw pair-text refl

no_constructor : fault_text P (F.NoConstructor nothing (int64 ∷ bool ∷ [])) ≡ codes "MethodError: no method matching Nothing(::Int64, ::Bool)"
no_constructor = rw (nothing-text, int64-text, bool-text) refl

no_field : fault_text P (F.NoField int64 (codes "x")) ≡ codes "FieldError: Int64 has no field x"
no_field = rw int64-text refl

no_index : fault_text P (F.NoIndex (W.Tuple (int64 ∷ [])) 2) ≡ codes "BoundsError: Tuple{Int64} has no part 2"
unfolding digits
no_index = rw single-text refl

not_bool : fault_text P (F.NotBool int64) ≡ codes "TypeError: non-boolean (Int64) used in boolean context"
not_bool = rw int64-text refl

not_task : fault_text P (F.NotTask int64) ≡ codes "NotTask: Int64"
not_task = rw int64-text refl

task_failed : fault_text P (F.TaskFailed 1) ≡ codes "TaskFailedException: task 1"
unfolding digits
task_failed = refl

fuel_spent : error_line P (F.FuelSpent 3) ≡ codes "ERROR: FuelSpent: 3 calls\n"
unfolding digits
fuel_spent = refl

stack_limit : fault_text P F.StackLimit ≡ codes "StackOverflowError: 100000 open calls"
unfolding digits
stack_limit = refl

world_limit : fault_text P F.WorldLimit ≡ codes "WorldLimit: 65535 worlds"
unfolding digits
world_limit = refl

task_limit : fault_text P F.TaskLimit ≡ codes "TaskLimit: 4096 tasks"
unfolding digits
task_limit = refl

type_limit : fault_text P F.TypeLimit ≡ codes "TypeLimit"
type_limit = refl

value_limit : fault_text P F.ValueLimit ≡ codes "ValueLimit"
value_limit = refl

-- the texts of values
int-value : (n : ℤ) → value_text P (V.Int n) ≡ datum_step P (D.Int n)
int-value n = fold-roll-Datum (List ℕ) (datum_step P) (D.Int n)

least_value : value_text P (V.Int least) ≡ codes "-9223372036854775808"
unfolding digits
least_value = int-value least

zero_value : value_text P (V.Int (pos 0)) ≡ codes "0"
unfolding digits
zero_value = int-value (pos 0)

true_value : value_text P (V.Bool true) ≡ codes "true"
true_value = fold-roll-Datum (List ℕ) (datum_step P) (D.Bool true)

nothing_value : value_text P V.Nothing ≡ codes "nothing"
nothing_value = fold-roll-Datum (List ℕ) (datum_step P) D.Nothing

task_value : value_text P (V.Task 3) ≡ codes "Task(3)"
unfolding digits
task_value = fold-roll-Datum (List ℕ) (datum_step P) (D.Task 3)

tuple-value : (t : Ty) (vs : List Datum) → value_text P (V.Tuple (record { ty = t; parts = vs })) ≡ tuple_text (map (datum_text P) vs)
tuple-value t vs = fold-roll-Datum (List ℕ) (datum_step P) (D.Tuple t vs)

unit_value : value_text P (V.Tuple (record { ty = W.Tuple []; parts = [] })) ≡ codes "()"
unit_value = tuple-value (W.Tuple []) []

single_value : value_text P (V.Tuple (record { ty = W.Tuple (int64 ∷ []); parts = datum (V.Int (pos 1)) ∷ [] })) ≡ codes "(1,)"
unfolding digits
single_value = tuple-value (W.Tuple (int64 ∷ [])) (datum (V.Int (pos 1)) ∷ []) ∙ ap (λ t. tuple_text (t ∷ [])) (int-value (pos 1))

pair_value : value_text P (V.Tuple (record { ty = W.Tuple (int64 ∷ bool ∷ []); parts = datum (V.Int (pos 1)) ∷ datum (V.Bool true) ∷ [] })) ≡ codes "(1, true)"
unfolding digits
pair_value = tuple-value (W.Tuple (int64 ∷ bool ∷ [])) (datum (V.Int (pos 1)) ∷ datum (V.Bool true) ∷ []) ∙ rw (int-value (pos 1), true_value) refl

struct_value : value_text P (V.Struct (record { ty = nothing; parts = datum (V.Int (pos 3)) ∷ [] })) ≡ codes "Nothing(3)"
unfolding digits
struct_value =
    fold-roll-Datum (List ℕ) (datum_step P) (D.Struct nothing (datum (V.Int (pos 3)) ∷ [])) ∙ rw (nothing-text, int-value (pos 3)) refl

empty_struct : value_text P (V.Struct (record { ty = nothing; parts = [] })) ≡ codes "Nothing()"
empty_struct = fold-roll-Datum (List ℕ) (datum_step P) (D.Struct nothing []) ∙ rw nothing-text refl

-- ---- the history

own : own_events 0 0 before ≡ own_items trace
own = refl

own_of_another : own_events 1 0 before ≡ []
own_of_another = refl

no_starts : own_starts 0 before ≡ []
no_starts = refl

in_order : IsInOrder (first_place 0 0 before) trace (length before)
in_order = (omega arith, (omega arith, (omega arith, omega arith)))

are_true : AreTrueOf P before 0 trace
are_true = ((omega arith, refl), (refl, ((omega arith, refl), tt)))

running : IsRunning before 0
running = record { begun = refl; started = omega arith; going = refl }

begins : MayCome P [] (Ev.Begin 10000000)
begins = record { nothing_before = refl; allowed = omega arith }

defines_f : MayCome P (Ev.Begin 10000000 ∷ []) (Ev.Def 0 14)
defines_f = record { running = record { begun = refl; started = omega arith; going = refl }; may = (omega arith, omega arith); room = omega arith }

-- ---- what is refused

abbrev is_def : Option Event → Bool
is_def (Some (Ev.Def task site)) = true
is_def _ = false

-- the world is not there before its definition
no_early_look : IsTrueOf P before 0 (Look 15 1) → ⊥
no_early_look h = absurd (omega (arith, h.1))

-- no old world is seen after it
no_late_look : IsTrueOf P before 0 (Look 14 2) → ⊥
no_late_look h = absurd (omega (arith, h.1))

-- no events are seen that are not there
no_future_look : IsTrueOf P before 0 (Look 15 3) → ⊥
no_future_look h = absurd (omega (arith, h.0))

-- a definition is at its own place, by its own task
no_def_at_begin : IsTrueOf P before 0 (Def 14 0) → ⊥
no_def_at_begin h = true≢false (sym (ap is_def h))

abbrev task_of : Option Event → ℕ
task_of (Some (Ev.Def task site)) = task
task_of _ = 0

abbrev made_site : Option Event → ℕ
made_site (Some (Ev.Def task site)) = site
made_site _ = 0

no_def_of_another : IsTrueOf P before 1 (Def 14 1) → ⊥
no_def_of_another h = absurd (omega (arith, ap task_of h))

no_def_of_other_site : IsTrueOf P before 0 (Def 15 1) → ⊥
no_def_of_other_site h = absurd (omega (arith, ap made_site h))

-- an item after a definition has seen it
no_order_after_def : IsInOrder 1 (Look 14 1 ∷ Def 14 1 ∷ Look 15 1 ∷ []) 2 → ⊥
no_order_after_def h = absurd (omega (arith, h.1.1.0))

-- the first item has seen the beginning
no_order_at_zero : IsInOrder (first_place 0 0 before) (Look 14 0 ∷ []) 2 → ⊥
no_order_at_zero h = absurd (omega (arith, h.0))

-- a definition is before the end of its task
no_order_at_end : IsInOrder 1 (Look 14 1 ∷ Def 14 2 ∷ []) 2 → ⊥
no_order_at_end h = absurd (omega (arith, h.1.1))

-- the root does not end twice, and no other task runs
abbrev has_some : Option Record → Bool
has_some (Some r) = true
has_some None = false

not_twice : IsRunning H 0 → ⊥
not_twice h = true≢false (ap has_some h.going)

no_second_task : IsRunning before 1 → ⊥
no_second_task h = absurd (omega (arith, h.started))

-- nothing is before the beginning
no_def_first : MayCome P [] (Ev.Def 0 14) → ⊥
no_def_first h = true≢false (sym h.running.begun)

no_second_begin : MayCome P before (Ev.Begin 5) → ⊥
no_second_begin h = absurd (omega (arith, ap length h.nothing_before))

no_prelude_site : MayCome P before (Ev.Def 0 13) → ⊥
no_prelude_site h = absurd (omega (arith, h.may.0))

no_site_past_the_last : MayCome P before (Ev.Def 0 15) → ⊥
no_site_past_the_last h = absurd (omega (arith, h.may.1))

-- ---- the run

-- the choices that the two calls of the run make
call_f : Selects P before 12 (int64 ∷ []) 15 (C.Method 15)
call_f = selects_plain P refl before 12 (int64 ∷ []) 15 (C.Method 15) (only_choice (types_of P) (record { number = 15; sig = f_site.sig }) (int64 ∷ []) (any_applies (types_of P)))

call_add : Selects P before 0 (int64 ∷ int64 ∷ []) 15 (C.Method 1)
call_add = selects_plain P refl before 0 (int64 ∷ int64 ∷ []) 15 (C.Method 1) (only_choice (types_of P) (record { number = 1; sig = plain two }) two (two_apply (types_of P)))

-- in the world before the definition there is no method
no_f : Selects P before 12 (int64 ∷ []) 14 C.None
no_f = selects_plain P refl before 12 (int64 ∷ []) 14 C.None (λ m h. nothing_there m h.applies.stands)
  where
    nothing_there : (m : Method) → Contains [] m → ⊥
    nothing_there m (k, p, e) = absurd (omega (arith, p))

abbrev g : Setting
g = setting_of P before None 10000000

abbrev three : List ℕ
three = value_text P (V.Int (pos 3))

three_is : three ≡ codes "3"
unfolding digits
three_is = int-value (pos 3)

-- where the run is after so many calls
abbrev at_calls : List Value → List TraceItem → ℕ → List ℕ → State
at_calls env left made out = record { env = env; bindings = []; left = left; calls = made; out = out; starts = [] }

module _ (Ends : Outcome → State → Type 0) where
  -- 2 + 1, as the second call
  add : (room : ℕ) (env : List Value) (left : List TraceItem) (out : List ℕ) (next : Then) → next (V.Int (pos 3)) (at_calls env left 2 out)
      → calls g Ends (suc room) 0 (V.Int (pos 2) ∷ V.Int (pos 1) ∷ []) 15 (at_calls env left 1 out) next
  add room env left out next h = (C.Method 1, call_add, tt, h)

  -- f(2), as the first call
  f_of_two : (room : ℕ) (env : List Value) (left : List TraceItem) (out : List ℕ) (next : Then) → next (V.Int (pos 3)) (at_calls env left 2 out)
      → calls g Ends (suc (suc room)) 12 (V.Int (pos 2) ∷ []) 15 (at_calls env left 0 out) next
  f_of_two room env left out next h =
      let inner : Then = λ v s1. next v (with_scope s1 env []) in
      let called : Caller = calls g Ends (suc room) in
      let s : State = at_calls (V.Int (pos 2) ∷ []) left 1 out in
      let last = add room (V.Int (pos 2) ∷ []) left out inner h in
      let second = int_runs g Ends called (pos 1) 15 s inner (λ v s1. called 0 (V.Int (pos 2) ∷ v ∷ []) 15 s1 inner) last in
      let first = local_runs g Ends called 0 15 s inner (λ v s1. runs g Ends called (E.Int (pos 1)) 15 s1 inner (λ u s2. called 0 (v ∷ u ∷ []) 15 s2 inner)) second in
      (C.Method 15, call_f, tt, call_runs g Ends called 0 (E.Local 0 ∷ E.Int (pos 1) ∷ []) 15 s inner inner first)

abbrev or_zero : Option ℕ → ℕ
or_zero None = 0
or_zero (Some n) = n

fuel_is : (fuel : ℕ) → fuel_of before ≡ Some fuel → 10000000 ≡ fuel
fuel_is fuel e = ap or_zero e

only_root : (task : ℕ) → task < tasks_of H → 0 ≡ task
only_root task h = omega (arith, h)

-- the run of the script leads to 3, with two calls
ran : Run g None trace (O.Value V.Nothing) (codes "3\n") 2 []
ran =
    let Ends : Outcome → State → Type 0 = IsEnd (O.Value V.Nothing) (codes "3\n") 2 [] in
    let called : Caller = calls g Ends open_calls in
    let back : Then = λ v s. Ends (O.Value v) s in
    let call : Expr = X.Call 12 (E.Int (pos 2) ∷ []) in
    let pieces : List Piece = Pi.Show call ∷ [] in
    let s1 : State = at_calls [] (Look 15 2 ∷ []) 0 [] in
    let s2 : State = at_calls [] [] 0 [] in
    let printed : List ℕ → State → Type 0 = λ t s. back V.Nothing (prints s (t ++ codes "\n")) in
    let shown : List ℕ → State → Type 0 = λ t s. printed ([] ++ t) s in
    let valued : Then = λ v s. shown (value_text P v) s in
    let end : valued (V.Int (pos 3)) (at_calls [] [] 2 []) =
    record { is = refl; whole = refl; printed = ap (λ t. t ++ codes "\n") three_is; counted_calls = refl; spawned_tasks = refl } in
    let of_f = f_of_two Ends 99998 [] [] [] valued end in
    let argument = int_runs g Ends called (pos 2) 15 s2 back (λ v s. called 12 (v ∷ []) 15 s valued) of_f in
    let value = call_runs g Ends called 12 (E.Int (pos 2) ∷ []) 15 s2 back valued argument in
    let piece = show_runs g Ends called call 15 s2 back shown value in
    let line = print_runs g Ends called pieces true 15 s2 back back piece in
    let second = do_runs g Ends called (X.Print pieces true) s1 back back line in
    let first = define_runs g Ends called 14 (first_state trace) back (λ v s. runs_item g Ends called (I.Do (X.Print pieces true)) s back back) (refl, second) in
    record { ran = first }

-- what the root did is a run over what stands before its end
has_run : HasRun P None before 0 ended
has_run fuel e = subst (λ (n : ℕ). Run (setting_of P before None n) None trace (O.Value V.Nothing) (codes "3\n") 2 []) (fuel_is fuel e) ran

has_true_trace : HasTrueTrace P before 0 ended
has_true_trace = record { true_items = are_true; in_order = in_order }

legal : IsLegal P H
legal = record {
  so_far = record {
    stand = record { begun = refl; come = (begins, (defines_f, (running, tt))) };
    traced = record { traces = (tt, (tt, (has_true_trace, tt))); own = (tt, (tt, (own, tt))) };
    runs = (tt, (tt, (has_run, tt)));
  };
  finished = λ task h. subst (λ (t : ℕ). IsSome (done_of t H)) (only_root task h) refl;
}

-- ---- no other run has this trace

module _ (Ends : Outcome → State → Type 0) where
  taken : (c : Choice) (d f : ℕ) (ts : List Ty) (s : State) (go : ℕ → Type 0) → c ≡ C.Method d → chosen g Ends c f ts 15 s go → go (site_of before d)
  taken c d f ts s go e k = subst (λ (x : Choice). chosen g Ends x f ts 15 s go) e k

  abbrev in_scope : List Value → List Ty → ℕ → State
  in_scope env bindings made = record { env = env; bindings = bindings; left = []; calls = made; out = []; starts = [] }

  add_is : (room : ℕ) (env : List Value) (bindings : List Ty) (next : Then)
      → calls g Ends (suc room) 0 (V.Int (pos 2) ∷ V.Int (pos 1) ∷ []) 15 (in_scope env bindings 1) next → next (V.Int (pos 3)) (in_scope env bindings 2)
  add_is room env bindings next h =
      taken h.0 1 0 two (in_scope env bindings 2) _ (no_other_choice (types_of P) (record { number = 1; sig = plain two }) two (two_apply (types_of P)) h.0 (plain_selects P refl before 0 two 15 h.0 h.1)) h.3

  f_is : (room : ℕ) (next : Then) → calls g Ends (suc (suc room)) 12 (V.Int (pos 2) ∷ []) 15 (in_scope [] [] 0) next → next (V.Int (pos 3)) (in_scope [] [] 2)
  f_is room next h =
      let c : h.0 ≡ C.Method 15 = no_other_choice (types_of P) (record { number = 15; sig = f_site.sig }) (int64 ∷ []) (any_applies (types_of P)) h.0 (plain_selects P refl before 12 (int64 ∷ []) 15 h.0 h.1) in
      let k = taken h.0 15 12 (int64 ∷ []) (in_scope [] [] 1) _ c h.3 in
      let inner : Then = λ v s1. next v (with_scope s1 [] []) in
      let called : Caller = calls g Ends (suc room) in
      let s : State = in_scope (V.Int (pos 2) ∷ []) [] 1 in
      let first = from_call g Ends called 0 (E.Local 0 ∷ E.Int (pos 1) ∷ []) 15 s inner inner k in
      let second = from_local g Ends called 0 15 s inner (λ v s1. runs g Ends called (E.Int (pos 1)) 15 s1 inner (λ u s2. called 0 (v ∷ u ∷ []) 15 s2 inner)) first in
      let last = from_int g Ends called (pos 1) 15 s inner (λ v s1. called 0 (V.Int (pos 2) ∷ v ∷ []) 15 s1 inner) second in
      add_is room (V.Int (pos 2) ∷ []) [] inner last

-- the trace leads to this outcome, this output and these calls alone
record IsThree (o : Outcome) (out : List ℕ) (made : ℕ) (spawned : List Start) : Type 0 where
  outcome : o ≡ O.Value V.Nothing
  output : out ≡ codes "3\n"
  counted : made ≡ 2
  starts : spawned ≡ []

only_three : (o : Outcome) (out : List ℕ) (made : ℕ) (spawned : List Start) → Run g None trace o out made spawned → IsThree o out made spawned
only_three o out made spawned h =
    let Ends : Outcome → State → Type 0 = IsEnd o out made spawned in
    let called : Caller = calls g Ends open_calls in
    let back : Then = λ v s. Ends (O.Value v) s in
    let call : Expr = X.Call 12 (E.Int (pos 2) ∷ []) in
    let pieces : List Piece = Pi.Show call ∷ [] in
    let s1 : State = at_calls [] (Look 15 2 ∷ []) 0 [] in
    let s2 : State = at_calls [] [] 0 [] in
    let printed : List ℕ → State → Type 0 = λ t s. back V.Nothing (prints s (t ++ codes "\n")) in
    let shown : List ℕ → State → Type 0 = λ t s. printed ([] ++ t) s in
    let valued : Then = λ v s. shown (value_text P v) s in
    let first = from_define g Ends called 14 (first_state trace) back (λ v s. runs_item g Ends called (I.Do (X.Print pieces true)) s back back) h.ran in
    let second = from_do g Ends called (X.Print pieces true) s1 back back first.1 in
    let piece = from_print g Ends called pieces true 15 s2 back back second in
    let value = from_show g Ends called call 15 s2 back shown piece in
    let argument = from_call g Ends called 12 (E.Int (pos 2) ∷ []) 15 s2 back valued value in
    let of_f = from_int g Ends called (pos 2) 15 s2 back (λ v s. called 12 (v ∷ []) 15 s valued) argument in
    let end : valued (V.Int (pos 3)) (at_calls [] [] 2 []) = f_is Ends 99998 valued of_f in
    record { outcome = sym end.is; output = sym end.printed ∙ ap (λ t. t ++ codes "\n") three_is; counted = sym end.counted_calls; starts = sym end.spawned_tasks }

-- not 4, not one call, no other outcome
pub not_four : (o : Outcome) (made : ℕ) (spawned : List Start) → Run g None trace o (codes "4\n") made spawned → ⊥
not_four o made spawned h = absurd (omega (arith, ap (λ (t : List ℕ). get_or t 0 0) (only_three o (codes "4\n") made spawned h).output))

pub not_one_call : (o : Outcome) (out : List ℕ) (spawned : List Start) → Run g None trace o out 1 spawned → ⊥
not_one_call o out spawned h = absurd (omega (arith, (only_three o out 1 spawned h).counted))

abbrev is_value : Outcome → Bool
is_value (O.Value v) = true
is_value (O.Error e) = false

no_error : (e : Fault) (out : List ℕ) (made : ℕ) (spawned : List Start) → Run g None trace (O.Error e) out made spawned → ⊥
no_error e out made spawned h = true≢false (sym (ap is_value (only_three (O.Error e) out made spawned h).outcome))

-- a trace without the second look, and one with a look too many, lead to nothing
pub no_short_trace : (o : Outcome) (out : List ℕ) (made : ℕ) (spawned : List Start) → Run g None (Look 14 1 ∷ Def 14 1 ∷ []) o out made spawned → ⊥
no_short_trace o out made spawned h =
    let Ends : Outcome → State → Type 0 = IsEnd o out made spawned in
    let called : Caller = calls g Ends open_calls in
    let back : Then = λ v s. Ends (O.Value v) s in
    let line : Expr = X.Print (Pi.Show (X.Call 12 (E.Int (pos 2) ∷ [])) ∷ []) true in
    let first = from_define g Ends called 14 (first_state (Look 14 1 ∷ Def 14 1 ∷ [])) back (λ v s. runs_item g Ends called (I.Do line) s back back) h.ran in
    from_do g Ends called line (at_calls [] [] 0 []) back back first.1

-- a trace with the definition of another site leads to nothing
no_other_site : (o : Outcome) (out : List ℕ) (made : ℕ) (spawned : List Start) → Run g None (Look 14 1 ∷ Def 13 1 ∷ Look 15 2 ∷ []) o out made spawned → ⊥
no_other_site o out made spawned h =
    let Ends : Outcome → State → Type 0 = IsEnd o out made spawned in
    let called : Caller = calls g Ends open_calls in
    let back : Then = λ v s. Ends (O.Value v) s in
    let line : Expr = X.Print (Pi.Show (X.Call 12 (E.Int (pos 2) ∷ [])) ∷ []) true in
    let first = from_define g Ends called 14 (first_state (Look 14 1 ∷ Def 13 1 ∷ Look 15 2 ∷ [])) back (λ v s. runs_item g Ends called (I.Do line) s back back) h.ran in
    absurd (omega (arith, first.0))
