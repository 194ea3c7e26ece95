-- A book with one event more is one again.
use Rattle.std.proofs.Common.{◌≡◌, ◌∙◌, ap, sym, subst, ℕ, ◌+◌, ◌≤◌, arith, List, [], ◌∷◌, ◌++◌, length, append-nil, append_assoc, length-append, Some, None}
use Rattle.jl_program.specs.declared.tree.Program.{Program}
use Rattle.jl_calculus.specs.declared.history.Event.{Event}
use Rattle.jl_calculus.specs.declared.history.Event.TheVariants as Ev
use Rattle.jl_calculus.specs.declared.history.Record.{Record}
use Rattle.jl_calculus.specs.Legal.{MayCome, EachAfter, OnDone, HasTrueTrace, HasOwnEvents, HasRun, IsLegal}
use Rattle.jl_calculus.specs.Past.{tasks_of}
use Rattle.jl_calculus.specs.Ranges.{CacheRow, keys_of, rows_of}
use Rattle.jl_calculus.specs.ValidHistory.{IsValidEvent, AreValidEvents}
use Rattle.jl_calculus.proofs.GrowthLemmas.{keys_append, rows_append}
use Rattle.jl_world.specs.declared.about.About.{About}
use Rattle.jl_world.specs.Adds.{HasPlaceFor, IsNarrow}
use Rattle.jl_world.specs.Places.{AreFew, AreNarrow}
use Rattle.jl_world.specs.Rule.{IsHistory, first_events}
use Rattle.jl_world.proofs.Bounds.{few_events}
use Rattle.jl_world.proofs.Growth.{stand_push, fuel_append}
use Rattle.jl_rows.specs.Plans.{places_of}
use Rattle.jl_book.specs.Books.{IsBook}
use Rattle.jl_book.specs.Tasks.{unfinished_of}
use Rattle.jl_book.proofs.Counting.{none_counts}

-- what each event keeps of those before it is kept by one more
pub each_push : (R : List Event → Event → Type 0) (past es : List Event) (e : Event) → EachAfter R past es → R (past ++ es) e → EachAfter R past (es ++ e ∷ [])
each_push R past [] e h r = (subst (λ xs. R xs e) (append-nil past) r, tt)
each_push R past (x ∷ es) e h r = (h.0, each_push R (past ++ x ∷ []) es e h.1 (subst (λ xs. R xs e) (sym (append_assoc past (x ∷ []) es)) r))

-- one condition on the end of a task follows from another
pub on_done : (R S : ℕ → Record → Type 0) → ((t : ℕ) (r : Record) → R t r → S t r) → (e : Event) → OnDone R e → OnDone S e
on_done R S f (Ev.Begin fuel) h = tt
on_done R S f (Ev.Key key) h = tt
on_done R S f (Ev.Fill key site first) h = tt
on_done R S f (Ev.Def task site) h = tt
on_done R S f (Ev.Del task place) h = tt
on_done R S f (Ev.Spawn task child start) h = tt
on_done R S f (Ev.Done task ended) h = f task ended h

-- there is a place for what comes
few_more : (about : About) (es : List Event) (e : Event) → HasPlaceFor about es e → AreFew about es → length (es ++ e ∷ []) ≤ 98289 → AreFew about (es ++ e ∷ [])
few_more about es e place few all = by e place all
  where
    keys : (e : Event) → length (keys_of (es ++ e ∷ [])) ≡ length (keys_of es) + length (keys_of (e ∷ []))
    keys e = ap length (keys_append es (e ∷ [])) ∙ length-append (keys_of es) (keys_of (e ∷ []))

    rows : (e : Event) → length (rows_of (es ++ e ∷ [])) ≡ length (rows_of es) + length (rows_of (e ∷ []))
    rows e = ap length (rows_append es (e ∷ [])) ∙ length-append (rows_of es) (rows_of (e ∷ []))

    by : (e : Event) → HasPlaceFor about es e → length (es ++ e ∷ []) ≤ 98289 → AreFew about (es ++ e ∷ [])
    by (Ev.Begin fuel) p l = (omega (arith, keys (Ev.Begin fuel), few.0), omega (arith, rows (Ev.Begin fuel), few.1), l)
    by (Ev.Key key) p l = (omega (arith, keys (Ev.Key key), p), omega (arith, rows (Ev.Key key), few.1), l)
    by (Ev.Fill n s f) p l = (omega (arith, keys (Ev.Fill n s f), few.0), omega (arith, rows (Ev.Fill n s f), p), l)
    by (Ev.Def t s) p l = (omega (arith, keys (Ev.Def t s), few.0), omega (arith, rows (Ev.Def t s), few.1), l)
    by (Ev.Del t place) p l = (omega (arith, keys (Ev.Del t place), few.0), omega (arith, rows (Ev.Del t place), few.1), l)
    by (Ev.Spawn t c s) p l = (omega (arith, keys (Ev.Spawn t c s), few.0), omega (arith, rows (Ev.Spawn t c s), few.1), l)
    by (Ev.Done t r) p l = (omega (arith, keys (Ev.Done t r), few.0), omega (arith, rows (Ev.Done t r), few.1), l)

narrow_append : (xs ys : List CacheRow) → AreNarrow xs → AreNarrow ys → AreNarrow (xs ++ ys)
narrow_append [] ys a b = b
narrow_append (x ∷ xs) ys a b = (a.0, narrow_append xs ys a.1 b)

narrow_one : (e : Event) → IsNarrow e → AreNarrow (rows_of (e ∷ []))
narrow_one (Ev.Begin fuel) n = tt
narrow_one (Ev.Key key) n = tt
narrow_one (Ev.Fill number site first) n = (n, tt)
narrow_one (Ev.Def task site) n = tt
narrow_one (Ev.Del task place) n = tt
narrow_one (Ev.Spawn task child start) n = tt
narrow_one (Ev.Done task ended) n = tt

pub history_push : (about : About) (es : List Event) (e : Event) → IsHistory about es → MayCome about.program.value es e → HasPlaceFor about es e → IsNarrow e → IsHistory about (es ++ e ∷ [])
history_push about es e h m place narrow =
    let P = about.program.value in
    let stand = stand_push P es e h.stand m in
    record {
      stand = stand;
      fuel = fuel_append es (e ∷ []) h.stand.begun ∙ h.fuel;
      few = few_more about es e place h.few (few_events P (es ++ e ∷ []) stand);
      narrow = subst AreNarrow (sym (rows_append es (e ∷ []))) (narrow_append (rows_of es) (rows_of (e ∷ [])) h.narrow (narrow_one e narrow));
    }

valid_push : (P : Program) (es : List Event) (e : Event) → AreValidEvents P es → IsValidEvent P e → AreValidEvents P (es ++ e ∷ [])
valid_push P [] e h v = (v, tt)
valid_push P (x ∷ es) e h v = (h.0, valid_push P es e h.1 v)

-- what is asked of the end of a task
pub record IsEnd (about : About) (es : List Event) (t : ℕ) (r : Record) : Type 0 where
  pub traced : HasTrueTrace about.program.value es t r
  pub own : HasOwnEvents es t r
  pub run : HasRun about.program.value (Some (places_of about)) es t r
  pub plain : HasRun about.program.value None es t r

pub book_push : (about : About) (es : List Event) (e : Event) → IsBook about es → IsHistory about (es ++ e ∷ []) → IsValidEvent about.program.value e → OnDone (IsEnd about es) e
    → IsBook about (es ++ e ∷ [])
book_push about es e b history valid ends =
    let P = about.program.value in
    let room = places_of about in
    record {
      history = history;
      legal = record {
        stand = history.stand;
        traced = record {
          traces = each_push (λ past. OnDone (HasTrueTrace P past)) [] es e b.legal.traced.traces (on_done (IsEnd about es) (HasTrueTrace P es) (λ t r h. h.traced) e ends);
          own = each_push (λ past. OnDone (HasOwnEvents past)) [] es e b.legal.traced.own (on_done (IsEnd about es) (HasOwnEvents es) (λ t r h. h.own) e ends);
        };
        runs = each_push (λ past. OnDone (HasRun P None past)) [] es e b.legal.runs (on_done (IsEnd about es) (HasRun P None es) (λ t r h. h.plain) e ends);
      };
      cached = each_push (λ past. OnDone (HasRun P (Some room) past)) [] es e b.cached (on_done (IsEnd about es) (HasRun P (Some room) es) (λ t r h. h.run) e ends);
      valid = valid_push P es e b.valid valid;
    }

-- the last event may come after those before it
pub last_keeps : (R : List Event → Event → Type 0) (past es : List Event) (e : Event) → EachAfter R past (es ++ e ∷ []) → R (past ++ es) e
last_keeps R past [] e h = subst (λ xs. R xs e) (sym (append-nil past)) h.0
last_keeps R past (x ∷ es) e h = subst (λ xs. R xs e) (append_assoc past (x ∷ []) es) (last_keeps R (past ++ x ∷ []) es e h.1)

pub last_may : (about : About) (es : List Event) (e : Event) → IsHistory about (es ++ e ∷ []) → MayCome about.program.value es e
last_may about es e h = last_keeps (MayCome about.program.value) [] es e h.stand.come

-- the history that only has its Begin
pub first_book : (about : About) → IsHistory about (first_events about) → IsBook about (first_events about)
first_book about history = record {
  history = history;
  legal = record { stand = history.stand; traced = record { traces = (tt, tt); own = (tt, tt) }; runs = (tt, tt) };
  cached = (tt, tt);
  valid = (tt, tt);
}

-- once no task is unfinished the events are a legal history
pub legal_closed : (about : About) (es all : List Event) → IsBook about es → unfinished_of es ≡ 0 → all ≡ es → IsLegal about.program.value all
legal_closed about es all b none is =
    subst (IsLegal about.program.value) (sym is) (record { so_far = b.legal; finished = λ t l. none_counts (tasks_of es) t es l none })
