-- The history of the first script with its keys and rows is legal, and cached: `f(x) = x + 1`, and then `println(f(2))`.
use Rattle.std.proofs.Common.{◌≡◌, ◌∙◌, refl, ap, sym, subst, ℕ, zero, suc, ◌<◌, ◌≤◌, inl, inr, pos, Bool, true, codes, List, [], ◌∷◌, ◌++◌, nat_eq, nat_lt, length, arith, Option, Some, None, IsSome}
use Rattle.std.specs.List.{Contains, list_all}
use Rattle.std.proofs.lemmas.List.Elements.{All-nil, All-cons}
use Rattle.jl_model.specs.declared.ty.Key.{Key}
use Rattle.jl_model.specs.declared.ty.Ty.TheOpen as L
use Rattle.jl_model.specs.declared.ty.Ty.TheViews.{rolls-Nominal, outs-Nominal}
use Rattle.jl_model.specs.declared.ty.Ty.TheFolds.{fold-roll-Ty}
use Rattle.jl_model.specs.Ancestors.{builtin_types, table_of}
use Rattle.jl_model.specs.Counts as types
use Rattle.jl_model.specs.Normal.{IsNormal, AllNormal}
use Rattle.jl_model.specs.Normal as N
use Rattle.jl_model.specs.Subtype.{opaque, is_concrete, concrete_step}
use Rattle.jl_model.specs.Valid.{is_known, is_counted, is_closed, names_in, names_step, counted_step}
use Rattle.jl_program.specs.Prelude.{int64, two, plain}
use Rattle.jl_program.specs.ValidValue.{IsValueType}
use Rattle.jl_program.specs.declared.choice.Choice.TheVariants as C
use Rattle.jl_program.specs.declared.tree.Expr.{Expr}
use Rattle.jl_program.specs.declared.tree.Expr.TheVariants as E
use Rattle.jl_program.specs.declared.tree.Expr.TheViews as X
use Rattle.jl_program.specs.declared.tree.Item.TheVariants as I
use Rattle.jl_program.specs.declared.tree.Piece.{Piece}
use Rattle.jl_program.specs.declared.tree.Piece.TheVariants as Pi
use Rattle.jl_program.specs.declared.value.Value.{Value}
use Rattle.jl_program.specs.declared.value.Value.TheVariants as V
use Rattle.jl_program.specs.Scope.{types_of}
use Rattle.jl_program.specs.Text.{value_text, datum_step}
use Rattle.jl_program.specs.declared.datum.Datum.TheOpen as D
use Rattle.jl_program.specs.declared.datum.Datum.TheFolds.{fold-roll-Datum}
use Rattle.std.specs.Fmt.{digits}
use Rattle.jl_program.proofs.FirstProgram.{f_site, P}
use Rattle.jl_program.proofs.FirstChoices.{int_vars, only_choice, any_applies, two_apply}
use Rattle.jl_calculus.specs.declared.history.Event.{Event}
use Rattle.jl_calculus.specs.declared.history.Event.TheVariants as Ev
use Rattle.jl_calculus.specs.declared.history.Outcome.{Outcome}
use Rattle.jl_calculus.specs.declared.history.Outcome.TheVariants as O
use Rattle.jl_calculus.specs.declared.history.TraceItem.{TraceItem}
use Rattle.jl_calculus.specs.declared.history.TraceItem.TheVariants.{Look, Def}
use Rattle.jl_calculus.specs.declared.history.Record.{Record}
use Rattle.jl_calculus.specs.Kept.{Places, IsKeptFor, Keeps}
use Rattle.jl_calculus.specs.Legal.{IsRunning, MayCome, MayStand, HasTrueTrace, HasRun, fuel_of, AreRuns, IsLegal, IsCached, text_of}
use Rattle.jl_calculus.specs.Past.{done_of, tasks_of}
use Rattle.jl_calculus.specs.Ranges.{CacheRow, keys_of, rows_of, Touches, IsCovered, IsRightFill}
use Rattle.jl_calculus.specs.Run.{Setting, setting_of, State, Then, Caller, IsEnd, Run, calls, runs, runs_item, prints, with_scope, first_state, open_calls}
use Rattle.jl_calculus.proofs.Forms.{int_runs, local_runs, call_runs, print_runs, show_runs, define_runs, do_runs}
use Rattle.jl_calculus.proofs.SelectLemmas.{selects_plain}

-- ---- the type of integers may stand in a key

int_known : is_known (length (builtin_types ++ [])) int64 ≡ true
int_known = ap (list_all (λ k. nat_lt k 8)) (ap names_in (sym (rolls-Nominal 4 [])) ∙ fold-roll-Ty (List ℕ) names_step (L.Nominal 4 []))

int_counted : is_counted (builtin_types ++ []) int64 ≡ true
int_counted = ap (is_counted (builtin_types ++ [])) (sym (rolls-Nominal 4 [])) ∙ fold-roll-Ty Bool (counted_step (builtin_types ++ [])) (L.Nominal 4 [])

int_closed : is_closed int64 ≡ true
int_closed = ap (λ (vs : List ℕ). nat_eq (length vs) 0) int_vars

int_concrete : is_concrete (table_of (builtin_types ++ [])) opaque int64 ≡ true
unfolding table_of
int_concrete = ap (is_concrete (table_of (builtin_types ++ [])) opaque) (sym (rolls-Nominal 4 [])) ∙ fold-roll-Ty Bool (concrete_step (table_of (builtin_types ++ [])) opaque) (L.Nominal 4 [])

int_nodes : types.nodes int64 ≡ 1
int_nodes = ap types.nodes (sym (rolls-Nominal 4 [])) ∙ fold-roll-Ty ℕ types.nodes_step (L.Nominal 4 [])

int_widest : (types.raw int64).widest ≡ 1
int_widest = ap (λ t. (types.raw t).widest) (sym (rolls-Nominal 4 [])) ∙ ap (λ (r : types.Raw). r.widest) (fold-roll-Ty types.Raw types.raw_step (L.Nominal 4 []))

pub int_may_stand : IsValueType (builtin_types ++ []) int64
int_may_stand = record {
  normal = N.nominal int64 4 [] (outs-Nominal 4 []) N.none;
  valid = record { known = int_known; counted = int_counted };
  closed = int_closed;
  concrete = int_concrete;
  small = record { nodes = omega (arith, int_nodes); alternatives = omega (arith, int_widest) };
}

-- ---- the events

abbrev pub key_f : Key
key_f = record { function = 12; types = int64 ∷ [] }

abbrev pub key_add : Key
key_add = record { function = 0; types = two }

abbrev pub trace : List TraceItem
trace = Look 14 1 ∷ Def 14 1 ∷ Look 15 2 ∷ []

abbrev pub ended : Record
ended = record { trace = trace; outcome = O.Value V.Nothing; output = codes "3\n"; calls = 2 }

abbrev pub begun : List Event
begun = Ev.Begin 10000000 ∷ []

abbrev pub made : List Event
made = Ev.Begin 10000000 ∷ Ev.Def 0 14 ∷ []

abbrev pub keyed : List Event
keyed = made ++ Ev.Key key_f ∷ []

abbrev pub filled : List Event
filled = keyed ++ Ev.Fill 0 14 15 ∷ []

abbrev pub keyed_twice : List Event
keyed_twice = filled ++ Ev.Key key_add ∷ []

abbrev pub before : List Event
before = keyed_twice ++ Ev.Fill 1 0 14 ∷ []

abbrev pub H : List Event
H = before ++ Ev.Done 0 ended ∷ []

abbrev pub row_f : CacheRow
row_f = record { key = 0; site = 14; first = 15 }

abbrev pub row_add : CacheRow
row_add = record { key = 1; site = 0; first = 14 }

-- ---- each may come

new_f : MayCome P made (Ev.Key key_f)
new_f = record {
  proper = record { function = omega arith; few = omega arith; types = All-cons (IsValueType (builtin_types ++ [])) int64 [] int_may_stand (All-nil (IsValueType (builtin_types ++ []))) };
  new = none;
  room = omega arith;
}
  where
    none : Contains (keys_of made) key_f → ⊥
    none (k, l, e) = absurd (omega (arith, l))

new_add : MayCome P filled (Ev.Key key_add)
new_add = record {
  proper = record {
    function = omega arith;
    few = omega arith;
    types = All-cons (IsValueType (builtin_types ++ [])) int64 (int64 ∷ []) int_may_stand
        (All-cons (IsValueType (builtin_types ++ [])) int64 [] int_may_stand (All-nil (IsValueType (builtin_types ++ []))));
  };
  new = none;
  room = omega arith;
}
  where
    none : Contains (keys_of filled) key_add → ⊥
    none (zero, l, e) = absurd (omega (arith, ap (λ (k : Key). k.function) e))
    none (suc k, l, e) = absurd (omega (arith, l))

-- the definition of `f` touches its key
touches_f : Touches P keyed 15 key_f
touches_f = (refl, any_applies (types_of P))

pub right_f : IsRightFill P keyed key_f 14 15
right_f = record {
  begun = inr (omega arith, touches_f);
  choice = (15, selects_plain P refl keyed 12 (int64 ∷ []) 15 (C.Method 15) (only_choice (types_of P) (record { number = 15; sig = f_site.sig }) (int64 ∷ []) (any_applies (types_of P))), refl);
}

pub right_add : IsRightFill P keyed_twice key_add 0 14
right_add = record { begun = inl refl; choice = (1, selects_plain P refl keyed_twice 0 two 14 (C.Method 1) (only_choice (types_of P) (record { number = 1; sig = plain two }) two (two_apply (types_of P))), refl) }

fill_f : MayCome P keyed (Ev.Fill 0 14 15)
fill_f = record { key = key_f; named = refl; right = right_f; new = none; room = omega arith }
  where
    none : (row : CacheRow) → Contains (rows_of keyed) row → row.key ≡ 0 → row.first ≡ 15 → ⊥
    none row (k, l, e) a b = absurd (omega (arith, l))

fill_add : MayCome P keyed_twice (Ev.Fill 1 0 14)
fill_add = record { key = key_add; named = refl; right = right_add; new = none; room = omega arith }
  where
    none : (row : CacheRow) → Contains (rows_of keyed_twice) row → row.key ≡ 1 → row.first ≡ 14 → ⊥
    none row (zero, l, e) a b = absurd (omega (arith, a, ap (λ (r : CacheRow). r.key) e))
    none row (suc k, l, e) a b = absurd (omega (arith, l))

pub running : (es : List Event) → IsSome (fuel_of es) → 0 < tasks_of es → done_of 0 es ≡ None → IsRunning es 0
running es b s g = record { begun = b; started = s; going = g }

stands : MayStand P H
stands = record {
  begun = refl;
  come = (
    record { nothing_before = refl; allowed = omega arith },
    (
      record { running = running begun refl (omega arith) refl; may = (omega arith, omega arith); room = omega arith },
      (new_f, (fill_f, (new_add, (fill_add, (running before refl (omega arith) refl, tt))))),
    ),
  );
}

-- ---- the calls are kept

kept_f : (room : Places) → IsKeptFor P before room 12 (int64 ∷ []) 15
kept_f room = (omega arith, inr (inr (0, key_f, refl, refl, refl, λ d s. covered)))
  where
    covered : IsCovered P before 0 key_f 15
    covered = (row_f, record { stands = (0, omega arith, refl); of_key = refl; covers = record { begun = omega arith; going = λ d low high t. absurd (omega (arith, low, high)) } })

kept_add : (room : Places) → IsKeptFor P before room 0 two 15
kept_add room = (omega arith, inr (inr (1, key_add, refl, refl, refl, λ d s. covered)))
  where
    apart : (d : ℕ) → 14 < d → d ≤ 15 → Touches P before d key_add → ⊥
    apart d low high t = let e : d ≡ 15 = omega (arith, low, high) in absurd (omega (arith, (subst (λ (n : ℕ). Touches P before n key_add) e t).0))

    covered : IsCovered P before 1 key_add 15
    covered = (row_add, record { stands = (1, omega arith, refl); of_key = refl; covers = record { begun = omega arith; going = apart } })

-- without places, or with any
keeps_f : (room : Option Places) → Keeps P before room 12 (int64 ∷ []) 15
keeps_f None = tt
keeps_f (Some room) = kept_f room

keeps_add : (room : Option Places) → Keeps P before room 0 two 15
keeps_add None = tt
keeps_add (Some room) = kept_add room

-- ---- the run, with or without places

module _ (room : Option Places) where
  abbrev g : Setting
  g = setting_of P before room 10000000

  abbrev at_calls : List Value → List TraceItem → ℕ → State
  at_calls env left calls = record { env = env; bindings = []; left = left; calls = calls; out = []; starts = [] }

  module _ (Ends : Outcome → State → Type 0) where
    add : (free : ℕ) (env : List Value) (next : Then) → next (V.Int (pos 3)) (at_calls env [] 2) → calls g Ends (suc free) 0 (V.Int (pos 2) ∷ V.Int (pos 1) ∷ []) 15 (at_calls env [] 1) next
    add free env next h = (C.Method 1, selects_plain P refl before 0 two 15 (C.Method 1) (only_choice (types_of P) (record { number = 1; sig = plain two }) two (two_apply (types_of P))), keeps_add room, h)

    f_of_two : (free : ℕ) (next : Then) → next (V.Int (pos 3)) (at_calls [] [] 2) → calls g Ends (suc (suc free)) 12 (V.Int (pos 2) ∷ []) 15 (at_calls [] [] 0) next
    f_of_two free next h =
        let inner : Then = λ v s1. next v (with_scope s1 [] []) in
        let called : Caller = calls g Ends (suc free) in
        let s : State = at_calls (V.Int (pos 2) ∷ []) [] 1 in
        let last = add free (V.Int (pos 2) ∷ []) inner h in
        let second = int_runs g Ends called (pos 1) 15 s inner (λ v s1. called 0 (V.Int (pos 2) ∷ v ∷ []) 15 s1 inner) last in
        let first = local_runs g Ends called 0 15 s inner (λ v s1. runs g Ends called (E.Int (pos 1)) 15 s1 inner (λ u s2. called 0 (v ∷ u ∷ []) 15 s2 inner)) second in
        (C.Method 15, selects_plain P refl before 12 (int64 ∷ []) 15 (C.Method 15) (only_choice (types_of P) (record { number = 15; sig = f_site.sig }) (int64 ∷ []) (any_applies (types_of P))), keeps_f room, call_runs g Ends called 0 (E.Local 0 ∷ E.Int (pos 1) ∷ []) 15 s inner inner first)

  three_is : value_text P (V.Int (pos 3)) ≡ codes "3"
  unfolding digits
  three_is = fold-roll-Datum (List ℕ) (datum_step P) (D.Int (pos 3))

  ran : Run g None trace (O.Value V.Nothing) (codes "3\n") 2 []
  ran =
      let Ends : Outcome → State → Type 0 = IsEnd (O.Value V.Nothing) (codes "3\n") 2 [] in
      let called : Caller = calls g Ends open_calls in
      let back : Then = λ v s. Ends (O.Value v) s in
      let call : Expr = X.Call 12 (E.Int (pos 2) ∷ []) in
      let pieces : List Piece = Pi.Show call ∷ [] in
      let s1 : State = at_calls [] (Look 15 2 ∷ []) 0 in
      let s2 : State = at_calls [] [] 0 in
      let printed : List ℕ → State → Type 0 = λ t s. back V.Nothing (prints s (t ++ codes "\n")) in
      let shown : List ℕ → State → Type 0 = λ t s. printed ([] ++ t) s in
      let valued : Then = λ v s. shown (value_text P v) s in
      let end : valued (V.Int (pos 3)) (at_calls [] [] 2) = record { is = refl; whole = refl; printed = ap (λ t. t ++ codes "\n") three_is; counted_calls = refl; spawned_tasks = refl } in
      let argument = int_runs g Ends called (pos 2) 15 s2 back (λ v s. called 12 (v ∷ []) 15 s valued) (f_of_two Ends 99998 valued end) in
      let value = call_runs g Ends called 12 (E.Int (pos 2) ∷ []) 15 s2 back valued argument in
      let line = print_runs g Ends called pieces true 15 s2 back back (show_runs g Ends called call 15 s2 back shown value) in
      let second = do_runs g Ends called (X.Print pieces true) s1 back back line in
      record { ran = define_runs g Ends called 14 (first_state trace) back (λ v s. runs_item g Ends called (I.Do (X.Print pieces true)) s back back) (refl, second) }

  or_zero : Option ℕ → ℕ
  or_zero None = 0
  or_zero (Some n) = n

  has_run : HasRun P room before 0 ended
  unfolding or_zero
  has_run fuel e = subst (λ (n : ℕ). Run (setting_of P before room n) None trace (O.Value V.Nothing) (codes "3\n") 2 []) (let q : 10000000 ≡ fuel = ap or_zero e in q) ran

  are_runs : AreRuns P room H
  are_runs = (tt, (tt, (tt, (tt, (tt, (tt, (has_run, tt)))))))

-- ---- the whole history

true_trace : HasTrueTrace P before 0 ended
true_trace = record { true_items = ((omega arith, refl), (refl, ((omega arith, refl), tt))); in_order = (omega arith, (omega arith, (omega arith, omega arith))) }

legal : IsLegal P H
legal = record {
  so_far = record {
    stand = stands;
    traced = record { traces = (tt, (tt, (tt, (tt, (tt, (tt, (true_trace, tt))))))); own = (tt, (tt, (tt, (tt, (tt, (tt, (refl, tt))))))) };
    runs = are_runs None;
  };
  finished = λ task l. subst (λ (t : ℕ). IsSome (done_of t H)) (let z : 0 ≡ task = omega (arith, l) in z) refl;
}

-- it is cached for any number of places
cached : (room : Places) → IsCached P room H
cached room = are_runs (Some room)

text : text_of P H ≡ codes "3\n"
text = refl
