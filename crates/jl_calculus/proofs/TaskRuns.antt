-- The runs of the tasks of two histories, which are so legal as a whole: a task that was spawned before a later definition, and a task that
-- makes one.
use Rattle.std.proofs.Common.{◌≡◌, ◌∙◌, refl, ap, sym, subst, ℕ, zero, suc, ◌<◌, pos, true, codes, List, [], ◌∷◌, ◌++◌, get_or, arith, Option, Some, None}
use Rattle.std.specs.Fmt.{digits}
use Rattle.std.specs.List.{Contains}
use Rattle.jl_model.specs.Choice.{Method, Applies, IsCandidate, IsBest, ChoosesMethod}
use Rattle.jl_model.specs.Rows.{Occurs}
use Rattle.jl_model.specs.Signature.{Row, IsRow, SigBelow, SameSignature, meet_end, Meet, fixed}
use Rattle.jl_model.specs.Subtype.{Table}
use Rattle.jl_model.specs.declared.ty.Ty.{Ty}
use Rattle.jl_program.specs.declared.choice.Choice.TheVariants as C
use Rattle.jl_program.specs.declared.datum.Datum.TheOpen as D
use Rattle.jl_program.specs.declared.datum.Datum.TheFolds.{fold-roll-Datum}
use Rattle.jl_program.specs.declared.tree.Expr.{Expr}
use Rattle.jl_program.specs.declared.tree.Expr.TheOpen as F
use Rattle.jl_program.specs.declared.tree.Expr.TheVariants as E
use Rattle.jl_program.specs.declared.tree.Expr.TheViews as X
use Rattle.jl_program.specs.declared.tree.Item.{Item}
use Rattle.jl_program.specs.declared.tree.Item.TheVariants as I
use Rattle.jl_program.specs.declared.tree.Piece.TheVariants as Pi
use Rattle.jl_program.specs.declared.tree.Program.{Program}
use Rattle.jl_program.specs.declared.tree.Stmt.{Stmt}
use Rattle.jl_program.specs.declared.tree.Stmt.TheVariants as S
use Rattle.jl_program.specs.declared.value.Value.TheVariants as V
use Rattle.jl_program.specs.Prelude.{plain}
use Rattle.jl_program.specs.Scope.{types_of}
use Rattle.jl_program.specs.Text.{value_text, datum_step}
use Rattle.jl_program.proofs.FirstChoices.{any_vars, none_occurs, only_choice}
use Rattle.jl_calculus.specs.declared.history.Event.{Event}
use Rattle.jl_calculus.specs.declared.history.Outcome.{Outcome}
use Rattle.jl_calculus.specs.declared.history.Outcome.TheVariants as O
use Rattle.jl_calculus.specs.declared.history.TraceItem.{TraceItem}
use Rattle.jl_calculus.specs.declared.history.TraceItem.TheVariants.{Look, Def, Spawn, Fetch}
use Rattle.jl_calculus.specs.Legal.{HasRun, IsLegal}
use Rattle.jl_calculus.specs.Run.{Setting, setting_of, State, Then, IsEnd, Caller, Run, calls, runs, runs_item, runs_stmt, stmts_run, fetches_value, prints, with_left, with_env, with_scope, with_start, start_at, binds, first_state, open_calls}
use Rattle.jl_calculus.proofs.Forms.{form_is, item_form_is, stmt_form_is, int_runs, local_runs, call_runs, print_runs, show_runs, define_runs, do_runs}
use Rattle.jl_calculus.proofs.WorldScripts.{made}
use Rattle.jl_calculus.proofs.TaskHistories.{Late, Make, call, start, int, no_types, no_arguments, late_8, late_9, late_task, late_root, late_trace, late_history, late_stands, late_traced, late_finished, make_3, make_4, make_task, make_root, make_trace, make_history, make_stands, make_traced, make_finished}
use Rattle.jl_calculus.proofs.SelectLemmas.{selects_plain}

-- ---- of two definitions without parameters the later one is chosen

nowhere : (v : ℕ) → Contains {X = ℕ} [] v → ⊥
nowhere v (k, p, e) = absurd (omega (arith, p))

module _ (n : Table) where
  -- a row of a signature without parts has none
  row_is : (l : Row) → IsRow n (plain no_types) l → [] ≡ l.parts
  row_is l h = by h.parts
    where
      by : Contains ([] ∷ []) l.parts → [] ≡ l.parts
      by (zero, p, e) = e
      by (suc k, p, e) = absurd (omega (arith, p))

  none_in : (l : Row) → [] ≡ l.parts → (v : ℕ) → Occurs (plain no_types) v l.parts → ⊥
  none_in l e v o = none_occurs [] refl v (subst (λ (ts : List Ty). Occurs (plain no_types) v ts) (sym e) o)

  pub empty_below : SigBelow n (plain no_types) (plain no_types)
  empty_below l h =
      let e = row_is l h in (
        l,
        h,
        (
          (λ v. Ty.Any),
          record { least = λ v o. absurd (none_in l e v o); most = λ v o. absurd (none_in l e v o); sure = λ v o. absurd (none_in l e v o) },
          (λ v w c. absurd (nowhere w (subst (λ (ws : List ℕ). Contains ws w) any_vars c))),
          subst (λ (ts : List Ty). Meet n (fixed (plain no_types) l) (plain no_types) (λ v. Ty.Any) ts ts) e meet_end,
        ),
      )

  abbrev pub method : ℕ → Method
  method d = record { number = d; sig = plain no_types }

  abbrev pub both : List Method
  both = method 15 ∷ method 17 ∷ []

  later_applies : Applies n both no_types (method 17)
  later_applies = record { stands = (1, omega arith, refl); below = no_arguments n }

  later_is_best : IsBest n both no_types (method 17)
  later_is_best = record { candidate = record { applies = later_applies; last = λ l a later s. past l a.stands later }; below = λ c k other. absurd (not_earlier c k other k.applies.stands) }
    where
      past : (l : Method) → Contains both l → 17 < l.number → ⊥
      past l (zero, p, e) later = absurd (omega (arith, later, ap (λ (m : Method). m.number) e))
      past l (suc zero, p, e) later = absurd (omega (arith, later, ap (λ (m : Method). m.number) e))
      past l (suc (suc k), p, e) later = absurd (omega (arith, p))

      not_earlier : (c : Method) → IsCandidate n both no_types c → (c.number ≡ 17 → ⊥) → Contains both c → ⊥
      not_earlier c k other (zero, p, e) =
          k.last (method 17) later_applies (omega (arith, ap (λ (m : Method). m.number) e)) (subst (λ (m : Method). SameSignature n m.sig (plain no_types)) e (empty_below, empty_below))
      not_earlier c k other (suc zero, p, e) = other (sym (ap (λ (m : Method). m.number) e))
      not_earlier c k other (suc (suc j), p, e) = absurd (omega (arith, p))

  pub latest_chosen : ChoosesMethod n both no_types 17
  latest_chosen = (method 17, later_is_best, refl)

-- ---- forms and items

abbrev bare : List TraceItem → ℕ → State
bare left count = record { env = []; bindings = []; left = left; calls = count; out = []; starts = [] }

module _ (P : Program) (es : List Event) (Ends : Outcome → State → Type 0) where
  abbrev g : Setting
  g = setting_of P es None 10000000

  abbrev called : Caller
  called = calls g Ends open_calls

  -- `println` of an expression
  abbrev prints_value : Then → Then
  prints_value next v s = next V.Nothing (prints s (([] ++ value_text P v) ++ codes "\n"))

  print_item : (e : Expr) (s : State) (w p : ℕ) (rest : List TraceItem) (back next : Then) → runs g Ends called e w (with_left s rest) back (prints_value next)
      → runs_item g Ends called (I.Do (X.Print (Pi.Show e ∷ []) true)) (with_left s (Look w p ∷ rest)) back next
  print_item e s w p rest back next h =
      do_runs g Ends called (X.Print (Pi.Show e ∷ []) true) (with_left s (Look w p ∷ rest)) back next
      (print_runs g Ends called (Pi.Show e ∷ []) true w (with_left s rest) back next
      (show_runs g Ends called e w (with_left s rest) back (λ t s1. next V.Nothing (prints s1 (([] ++ t) ++ codes "\n"))) h))

  -- the fetch of the first slot
  fetch_first : (w : ℕ) (s : State) (back next : Then) → fetches_value g Ends (get_or s.env 0 V.Nothing) s next → runs g Ends called (X.Fetch (E.Local 0)) w s back next
  fetch_first w s back next h =
      made (form_is g Ends called (X.Fetch (E.Local 0)) (F.Fetch (E.Local 0)) (X.outs-Fetch (E.Local 0)) w s back next)
      (local_runs g Ends called 0 w s back (λ v s1. fetches_value g Ends v s1 next) h)

  -- `t = Threads.@spawn ..` as the first binding
  spawn_item : (s : State) (w p child q : ℕ) (rest : List TraceItem) (back next : Then)
      → next (V.Task child) (binds (with_start (with_left s rest) (start_at 0 w (with_left s (Spawn child q ∷ rest)))) 0 (V.Task child))
      → runs_item g Ends called (I.Bind 0 (E.Spawn 0)) (with_left s (Look w p ∷ Spawn child q ∷ rest)) back next
  spawn_item s w p child q rest back next h =
      made (item_form_is g Ends called (I.Bind 0 (E.Spawn 0)) (F.Item::Bind 0 (E.Spawn 0)) (X.outs-Item::Bind 0 (E.Spawn 0)) (with_left s (Look w p ∷ Spawn child q ∷ rest)) back next)
      (made (form_is g Ends called (E.Spawn 0) (F.Spawn 0) (X.outs-Spawn 0) w (with_left s (Spawn child q ∷ rest)) back (λ v s1. next v (binds s1 0 v))) h)

number-text : (P : Program) (n : ℕ) → value_text P (V.Int (pos n)) ≡ datum_step P (D.Int (pos n))
number-text P n = fold-roll-Datum (List ℕ) (datum_step P) (D.Int (pos n))

one_is : value_text Late (V.Int (pos 1)) ≡ codes "1"
unfolding digits
one_is = number-text Late 1

two_is : value_text Late (V.Int (pos 2)) ≡ codes "2"
unfolding digits
two_is = number-text Late 2

seven_is : value_text Make (V.Int (pos 7)) ≡ codes "7"
unfolding digits
seven_is = number-text Make 7

-- after the spawn: the root has the task in its first slot
abbrev with_task : ℕ → List TraceItem → ℕ → List ℕ → State
with_task w left count out = record { env = V.Task 1 ∷ []; bindings = []; left = left; calls = count; out = out; starts = start w ∷ [] }

-- ---- `late`, in the world of its spawn

late_runs : Run (setting_of Late late_8 None 10000000) (Some (start 16)) [] (int 1) [] 2 []
late_runs =
    let Ends : Outcome → State → Type 0 = IsEnd (int 1) [] 2 [] in
    let end : Then = λ v s. Ends (O.Value v) s in
    let g : Setting = setting_of Late late_8 None 10000000 in
    let stop : Ends (int 1) (bare [] 2) = record { is = refl; whole = refl; printed = refl; counted_calls = refl; spawned_tasks = refl } in
    let outer : Then = λ v s. end v (with_scope s [] []) in
    let inner : Then = λ v s. outer v (with_scope s [] []) in
    let one = int_runs g Ends (calls g Ends 99998) (pos 1) 16 (bare [] 2) inner inner stop in
    let of_f : calls g Ends (suc 99998) 12 [] 16 (bare [] 1) outer = (C.Method 15, selects_plain Late refl late_8 12 [] 16 (C.Method 15) (only_choice (types_of Late) (method (types_of Late) 15) no_types (no_arguments (types_of Late))), tt, one) in
    let body = call_runs g Ends (calls g Ends 99999) 12 [] 16 (bare [] 1) outer outer of_f in
    let of_late : calls g Ends (suc 99999) 13 [] 16 (bare [] 0) end = (C.Method 16, selects_plain Late refl late_8 13 [] 16 (C.Method 16) (only_choice (types_of Late) (method (types_of Late) 16) no_types (no_arguments (types_of Late))), tt, body) in
    record { ran = call_runs g Ends (calls g Ends open_calls) 13 [] 16 (bare [] 0) end end of_late }

-- the root, which calls `f` in world 17
late_root_runs : Run (setting_of Late late_9 None 10000000) None late_trace (O.Value V.Nothing) (codes "1\n2\n") 1 (start 16 ∷ [])
late_root_runs =
    let Ends : Outcome → State → Type 0 = IsEnd (O.Value V.Nothing) (codes "1\n2\n") 1 (start 16 ∷ []) in
    let end : Then = λ v s. Ends (O.Value v) s in
    let g : Setting = setting_of Late late_9 None 10000000 in
    let called : Caller = calls g Ends open_calls in
    let line : ℕ → List ℕ = λ n. value_text Late (V.Int (pos n)) ++ codes "\n" in
    let out : List ℕ = line 1 in
    let second : Item = I.Do (X.Print (Pi.Show (call 12) ∷ []) true) in
    let first : Item = I.Do (X.Print (Pi.Show (X.Fetch (E.Local 0)) ∷ []) true) in
    let k5 : Then = λ v s. runs_item g Ends called second s end end in
    let k4 : Then = λ v s. runs_item g Ends called first s end k5 in
    let k3 : Then = λ v s. runs_item g Ends called (I.Define 16) s end k4 in
    let k2 : Then = λ v s. runs_item g Ends called (I.Bind 0 (E.Spawn 0)) s end k3 in
    let k1 : Then = λ v s. runs_item g Ends called (I.Define 15) s end k2 in
    let last : Then = prints_value Late late_9 Ends end in
    let same : (line 1 ++ line 2) ≡ codes "1\n2\n" = ap (λ t. (t ++ codes "\n") ++ line 2) one_is ∙ ap (λ t. (codes "1" ++ codes "\n") ++ (t ++ codes "\n")) two_is in
    let stop : last (V.Int (pos 2)) (with_task 16 [] 1 out) = record { is = refl; whole = refl; printed = same; counted_calls = refl; spawned_tasks = refl } in
    let inside : State = record { env = []; bindings = []; left = []; calls = 1; out = out; starts = start 16 ∷ [] } in
    let inner : Then = λ v s. last v (with_scope s (V.Task 1 ∷ []) []) in
    let two = int_runs g Ends (calls g Ends 99999) (pos 2) 17 inside inner inner stop in
    let of_f : calls g Ends (suc 99999) 12 [] 17 (with_task 16 [] 0 out) last = (C.Method 17, selects_plain Late refl late_9 12 [] 17 (C.Method 17) (latest_chosen (types_of Late)), tt, two) in
    let value = call_runs g Ends called 12 [] 17 (with_task 16 [] 0 out) end last of_f in
    let sixth = print_item Late late_9 Ends (call 12) (with_task 16 [] 0 out) 17 10 [] end end value in
    let taken : List TraceItem = Fetch 1 (int 1) 10 ∷ Look 17 10 ∷ [] in
    let fetched = fetch_first Late late_9 Ends 17 (with_task 16 taken 0 []) end (prints_value Late late_9 Ends k5) (refl, sixth) in
    let fifth = print_item Late late_9 Ends (X.Fetch (E.Local 0)) (with_task 16 [] 0 []) 17 5 taken end k5 fetched in
    let fourth = define_runs g Ends called 16 (with_task 16 (Look 16 4 ∷ Def 16 4 ∷ Look 17 5 ∷ taken) 0 []) end k4 (refl, fifth) in
    let after_spawn : List TraceItem = Look 16 4 ∷ Def 16 4 ∷ Look 17 5 ∷ taken in
    let third = spawn_item Late late_9 Ends (bare [] 0) 16 3 1 3 after_spawn end k3 fourth in
    let after_late : List TraceItem = Look 16 3 ∷ Spawn 1 3 ∷ after_spawn in
    let late_defined = define_runs g Ends called 15 (bare (Look 15 2 ∷ Def 15 2 ∷ after_late) 0) end k2 (refl, third) in
    record { ran = define_runs g Ends called 14 (first_state late_trace) end k1 (refl, late_defined) }

or_zero : Option ℕ → ℕ
or_zero None = 0
or_zero (Some n) = n

late_has_run : HasRun Late None late_8 1 late_task
unfolding or_zero
late_has_run fuel e = subst (λ (n : ℕ). Run (setting_of Late late_8 None n) (Some (start 16)) [] (int 1) [] 2 []) (let q : 10000000 ≡ fuel = ap or_zero e in q) late_runs

late_root_has_run : HasRun Late None late_9 0 late_root
unfolding or_zero
late_root_has_run fuel e =
    subst (λ (n : ℕ). Run (setting_of Late late_9 None n) None late_trace (O.Value V.Nothing) (codes "1\n2\n") 1 (start 16 ∷ [])) (let q : 10000000 ≡ fuel = ap or_zero e in q) late_root_runs

late_legal : IsLegal Late late_history
late_legal = record {
  so_far = record { stand = late_stands; traced = late_traced; runs = (tt, (tt, (tt, (tt, (tt, (tt, (tt, (tt, (tt, (late_has_run, (late_root_has_run, tt))))))))))) };
  finished = late_finished;
}

-- ---- `make`, which defines `g`

make_runs : Run (setting_of Make make_3 None 10000000) (Some (start 15)) (Look 15 3 ∷ Def 15 3 ∷ []) (int 0) [] 1 []
make_runs =
    let Ends : Outcome → State → Type 0 = IsEnd (int 0) [] 1 [] in
    let end : Then = λ v s. Ends (O.Value v) s in
    let g : Setting = setting_of Make make_3 None 10000000 in
    let within : Caller = calls g Ends 99999 in
    let left : List TraceItem = Look 15 3 ∷ Def 15 3 ∷ [] in
    let stop : Ends (int 0) (bare [] 1) = record { is = refl; whole = refl; printed = refl; counted_calls = refl; spawned_tasks = refl } in
    let after : Then = λ v s. end v (with_scope s [] []) in
    let inner : Then = λ v s. after v (with_env s []) in
    let zero_ : Stmt = S.Do (E.Int (pos 0)) in
    let evaluated : Expr = X.Eval (I.Define 15 ∷ []) in
    let rest : Then = λ v s. stmts_run (runs_stmt g Ends within) (zero_ ∷ []) v 15 s after inner in
    let second = made (stmt_form_is g Ends within zero_ (F.Stmt::Do (E.Int (pos 0))) (X.outs-Stmt::Do (E.Int (pos 0))) 15 (bare [] 1) after inner) (int_runs g Ends within (pos 0) 15 (bare [] 1) after inner stop) in
    let defined = made (item_form_is g Ends within (I.Define 15) (F.Define 15) (X.outs-Define 15) (bare left 1) after (λ v s. rest v (with_scope s [] []))) (refl, second) in
    let first = made (form_is g Ends within evaluated (F.Eval (I.Define 15 ∷ [])) (X.outs-Eval (I.Define 15 ∷ [])) 15 (bare left 1) after rest) defined in
    let statement = made (stmt_form_is g Ends within (S.Do evaluated) (F.Stmt::Do evaluated) (X.outs-Stmt::Do evaluated) 15 (bare left 1) after rest) first in
    let block = made (form_is g Ends within (X.Block (S.Do evaluated ∷ zero_ ∷ [])) (F.Block (S.Do evaluated ∷ zero_ ∷ [])) (X.outs-Block (S.Do evaluated ∷ zero_ ∷ [])) 15 (bare left 1) after after) statement in
    let of_make : calls g Ends (suc 99999) 12 [] 15 (bare left 0) end = (C.Method 15, selects_plain Make refl make_3 12 [] 15 (C.Method 15) (only_choice (types_of Make) (method (types_of Make) 15) no_types (no_arguments (types_of Make))), tt, block) in
    record { ran = call_runs g Ends (calls g Ends open_calls) 12 [] 15 (bare left 0) end end of_make }

-- the root, which looks after its fetch
make_root_runs : Run (setting_of Make make_4 None 10000000) None make_trace (O.Value V.Nothing) (codes "7\n") 1 (start 15 ∷ [])
make_root_runs =
    let Ends : Outcome → State → Type 0 = IsEnd (O.Value V.Nothing) (codes "7\n") 1 (start 15 ∷ []) in
    let end : Then = λ v s. Ends (O.Value v) s in
    let g : Setting = setting_of Make make_4 None 10000000 in
    let called : Caller = calls g Ends open_calls in
    let line : Item = I.Do (X.Print (Pi.Show (call 13) ∷ []) true) in
    let k3 : Then = λ v s. runs_item g Ends called line s end end in
    let k2 : Then = λ v s. runs_item g Ends called (I.Do (X.Fetch (E.Local 0))) s end k3 in
    let k1 : Then = λ v s. runs_item g Ends called (I.Bind 0 (E.Spawn 0)) s end k2 in
    let last : Then = prints_value Make make_4 Ends end in
    let stop : last (V.Int (pos 7)) (with_task 15 [] 1 []) = record { is = refl; whole = refl; printed = ap (λ t. t ++ codes "\n") seven_is; counted_calls = refl; spawned_tasks = refl } in
    let inside : State = record { env = []; bindings = []; left = []; calls = 1; out = []; starts = start 15 ∷ [] } in
    let inner : Then = λ v s. last v (with_scope s (V.Task 1 ∷ []) []) in
    let seven = int_runs g Ends (calls g Ends 99999) (pos 7) 16 inside inner inner stop in
    let of_g : calls g Ends (suc 99999) 13 [] 16 (with_task 15 [] 0 []) last = (C.Method 16, selects_plain Make refl make_4 13 [] 16 (C.Method 16) (only_choice (types_of Make) (method (types_of Make) 16) no_types (no_arguments (types_of Make))), tt, seven) in
    let value = call_runs g Ends called 13 [] 16 (with_task 15 [] 0 []) end last of_g in
    let fourth = print_item Make make_4 Ends (call 13) (with_task 15 [] 0 []) 16 5 [] end end value in
    let taken : List TraceItem = Fetch 1 (int 0) 5 ∷ Look 16 5 ∷ [] in
    let fetched = fetch_first Make make_4 Ends 15 (with_task 15 taken 0 []) end k3 (refl, fourth) in
    let third = do_runs g Ends called (X.Fetch (E.Local 0)) (with_task 15 (Look 15 3 ∷ taken) 0 []) end k3 fetched in
    let second = spawn_item Make make_4 Ends (bare [] 0) 15 2 1 2 (Look 15 3 ∷ taken) end k2 third in
    record { ran = define_runs g Ends called 14 (first_state make_trace) end k1 (refl, second) }

make_has_run : HasRun Make None make_3 1 make_task
unfolding or_zero
make_has_run fuel e = subst (λ (n : ℕ). Run (setting_of Make make_3 None n) (Some (start 15)) (Look 15 3 ∷ Def 15 3 ∷ []) (int 0) [] 1 []) (let q : 10000000 ≡ fuel = ap or_zero e in q) make_runs

make_root_has_run : HasRun Make None make_4 0 make_root
unfolding or_zero
make_root_has_run fuel e =
    subst (λ (n : ℕ). Run (setting_of Make make_4 None n) None make_trace (O.Value V.Nothing) (codes "7\n") 1 (start 15 ∷ [])) (let q : 10000000 ≡ fuel = ap or_zero e in q) make_root_runs

make_legal : IsLegal Make make_history
make_legal = record { so_far = record { stand = make_stands; traced = make_traced; runs = (tt, (tt, (tt, (tt, (make_has_run, (make_root_has_run, tt)))))) }; finished = make_finished }
