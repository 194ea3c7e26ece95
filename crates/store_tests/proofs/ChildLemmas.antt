-- What is visible where the task starts, and what both tasks do is a run.
use Rattle.std.proofs.Common.{◌≡◌, ◌∙◌, refl, sym, ap, subst, ℕ, ◌<◌, arith, List, [], ◌∷◌, ◌++◌, length, slice_get, Option, None, Some}
use Rattle.jl_program.specs.Prelude.{prelude_sites}
use Rattle.jl_program.specs.Scope.{nothing_seen}
use Rattle.jl_program.specs.declared.tree.Expr.{Expr}
use Rattle.jl_program.specs.declared.tree.Expr.TheOpen as F
use Rattle.jl_program.specs.declared.tree.Expr.TheFolds.{fold-roll-Item}
use Rattle.jl_program.specs.declared.tree.Expr.TheVariants as E
use Rattle.jl_program.specs.declared.tree.Expr.TheViews as X
use Rattle.jl_program.specs.declared.tree.Item.{Item, roll-Item, roll-out-Item}
use Rattle.jl_program.specs.declared.tree.Item.TheVariants as I
use Rattle.jl_program.specs.declared.tree.Program.{Program}
use Rattle.jl_program.specs.declared.value.Value.TheVariants as V
use Rattle.jl_calculus.specs.declared.history.Event.{Event}
use Rattle.jl_calculus.specs.declared.history.Event.TheVariants as Ev
use Rattle.jl_calculus.specs.declared.history.Outcome.{Outcome}
use Rattle.jl_calculus.specs.declared.history.Outcome.TheVariants as O
use Rattle.jl_calculus.specs.declared.history.TraceItem.TheVariants.{Spawn}
use Rattle.jl_calculus.specs.Kept.{Places}
use Rattle.jl_calculus.specs.Run.{Setting, setting_of, State, Then, Caller, IsEnd, Run, calls, runs_item, items_run, task_runs, first_state, open_calls}
use Rattle.jl_calculus.specs.ValidStart.{IsValidStart}
use Rattle.jl_calculus.specs.Views.{Finds, Walk, find_step, find_stmt_step, find_item_step, find_piece_step, find_spawns, walk_item, view_at}
use Rattle.jl_calculus.proofs.Forms.{form_is, item_form_is}
use Rattle.jl_calculus.proofs.WorldScripts.{made, bare}
use Rattle.jl_task.proofs.ValueTypes.{nothing_valid, task_valid}
use Rattle.jl_calculus.specs.Past.{tasks_of}
use Rattle.jl_book.specs.Passes.{IsRunOver, task_in}
use Rattle.jl_world.specs.Rule.{first_events}
use Rattle.jl_world.specs.Views.{begun, looked, met, noted}
use Rattle.jl_world.specs.declared.view.TaskView.{TaskView}
use Rattle.jl_program.specs.declared.tree.Start.{Start}
use Rattle.jl_world.specs.declared.about.About.{About}
use Rattle.store_tests.specs.Programs.{child}
use Rattle.store_tests.specs.Child.{IsChild, child_end, root_end, spawned, half_done, root_view}
use Rattle.store_tests.specs.Starts.{first_start}
use Rattle.store_tests.proofs.StartLemmas.{find_nothing, find_task, seen_from, start_valid}

-- ---- which program it is

pub child_is : IsChild child
child_is = record { sites = refl; top = refl; spawns = refl }

-- ---- what is visible at its place

walk_do : (e : Expr) → walk_item (I.Do e) ≡ find_item_step (F.Item::Do (find_spawns e))
walk_do e = ap walk_item (sym (ap roll-Item (sym (X.outs-Item::Do e)) ∙ roll-out-Item (I.Do e))) ∙ fold-roll-Item Finds Walk Finds Walk find_step find_item_step find_piece_step find_stmt_step (F.Item::Do e)

seen_there : seen_from prelude_sites (I.Do (E.Spawn 0) ∷ []) (E.Nothing ∷ []) ≡ nothing_seen
seen_there = rw (find_nothing, walk_do (E.Spawn 0), find_task) refl

module _ (P : Program) (h : IsChild P) where
  view_is : view_at P 0 ≡ nothing_seen
  view_is = (λ i. seen_from (h.sites i) (h.top i) (h.spawns i)) ∙ seen_there

  pub child_start : IsValidStart P first_start
  child_start = start_valid P (subst (λ (xs : List Expr). 0 < length xs) (sym h.spawns) (omega arith)) view_is

  -- ---- what they do

  child_task : (es : List Event) (places : Option Places) (fuel : ℕ) → Run (setting_of P es places fuel) (Some first_start) [] (O.Value V.Nothing) [] 0 []
  child_task es places fuel =
      let o : Outcome = O.Value V.Nothing in
      let Ends : Outcome → State → Type 0 = IsEnd o [] 0 [] in
      let end : Then = λ v s. Ends (O.Value v) s in
      let g : Setting = setting_of P es places fuel in
      let stop : Ends o (bare [] 0) = record { is = refl; whole = refl; printed = refl; counted_calls = refl; spawned_tasks = refl } in
      let there : slice_get P.spawns 0 ≡ Some E.Nothing = ap (λ (xs : List Expr). slice_get xs 0) h.spawns in
      let run : task_runs g Ends (Some E.Nothing) first_start [] = made (form_is g Ends (calls g Ends open_calls) E.Nothing F.Nothing X.outs-Nothing 14 (bare [] 0) end end) stop in
      record { ran = subst (λ (e : Option Expr). task_runs g Ends e first_start []) (sym there) run }

  root_task : (es : List Event) (places : Option Places) (fuel : ℕ) → Run (setting_of P es places fuel) None root_end.trace (O.Value (V.Task 1)) [] 0 (first_start ∷ [])
  root_task es places fuel =
      let o : Outcome = O.Value (V.Task 1) in
      let Ends : Outcome → State → Type 0 = IsEnd o [] 0 (first_start ∷ []) in
      let end : Then = λ v s. Ends (O.Value v) s in
      let g : Setting = setting_of P es places fuel in
      let called : Caller = calls g Ends open_calls in
      let after : State = record { env = []; bindings = []; left = []; calls = 0; out = []; starts = first_start ∷ [] } in
      let stop : Ends o after = record { is = refl; whole = refl; printed = refl; counted_calls = refl; spawned_tasks = refl } in
      let spawn = made (form_is g Ends called (E.Spawn 0) (F.Spawn 0) (X.outs-Spawn 0) 14 (bare (Spawn 1 1 ∷ []) 0) end end) stop in
      let item = made (item_form_is g Ends called (I.Do (E.Spawn 0)) (F.Item::Do (E.Spawn 0)) (X.outs-Item::Do (E.Spawn 0)) (first_state root_end.trace) end end) spawn in
      record { ran = subst (λ (xs : List Item). items_run (runs_item g Ends called) xs V.Nothing (first_state root_end.trace) end end) (sym h.top) item }

module _ (about : About) (h : IsChild about.program.value) where
  pub child_over : IsRunOver about (begun 1 (Some first_start) (spawned about.fuel)) child_end
  child_over = record {
    outcome = nothing_valid about.program.value;
    learnt = tt;
    order = omega arith;
    own = refl;
    looks = refl;
    runs = λ es _. child_task about.program.value h es _ _;
  }

  pub root_over : IsRunOver about (root_view about.fuel (half_done about.fuel)) root_end
  root_over = record {
    outcome = task_valid about.program.value 1;
    learnt = ((omega arith, refl), ((first_start, refl), tt));
    order = (omega arith, (omega arith, omega arith));
    own = refl;
    looks = refl;
    runs = λ es _. root_task about.program.value h es _ _;
  }

-- ---- what the spawn leaves
module _ (about : About) (es s : List Event) (v0 v1 : TaskView) (n : ℕ) (start : Start)
    (is : es ≡ first_events about) (at : v0 ≡ begun 0 None (first_events about)) (look : v1 ≡ looked s v0) (number : n ≡ tasks_of es) (from : start ≡ first_start) where
  abbrev now : v1 ≡ looked s (begun 0 None (first_events about))
  now = look ∙ ap (looked s) at

  abbrev one : n ≡ 1
  one = number ∙ ap tasks_of is

  pub book_after : (new : List Event) → new ≡ es ++ Ev.Spawn (task_in v1) n start ∷ [] → new ≡ spawned about.fuel
  book_after new added = added ∙ (λ i. is i ++ Ev.Spawn (task_in (now i)) (one i) (from i) ∷ [])

  pub root_after : (new : List Event) (v : TaskView) → new ≡ es ++ Ev.Spawn (task_in v1) n start ∷ [] → v ≡ met new (noted (length es) (Ev.Spawn (task_in v1) n start) v1) → v ≡ root_view about.fuel (spawned about.fuel)
  root_after new v added e = e ∙ (λ i. met (book_after new added i) (noted (length (is i)) (Ev.Spawn (task_in (now i)) (one i) (from i)) (now i)))

  pub child_after : (new : List Event) (v : TaskView) → new ≡ es ++ Ev.Spawn (task_in v1) n start ∷ [] → v ≡ begun n (Some start) new → v ≡ begun 1 (Some first_start) (spawned about.fuel)
  child_after new v added e = e ∙ (λ i. begun (one i) (Some (from i)) (book_after new added i))

-- the root has fetched the task before and after its end
pub root_fetched : (fuel : ℕ) (b0 b1 : List Event) (r0 r1 r2 : TaskView) → b0 ≡ spawned fuel → r0 ≡ root_view fuel (spawned fuel) → r1 ≡ met b0 r0 → b1 ≡ half_done fuel → r2 ≡ met b1 r1 → r2 ≡ root_view fuel (half_done fuel)
root_fetched fuel b0 b1 r0 r1 r2 was root first is second = second ∙ (λ i. met (is i) ((first ∙ (λ j. met (was j) (root j))) i))
