-- The parts of a book with one event more.
use Rattle.std.proofs.Common.{◌≡◌, ◌∙◌, ap, sym, subst, refl, ℕ, zero, suc, ◌+◌, arith, List, [], ◌∷◌, ◌++◌, length, get_or, set, append-nil, Option, Some, None}
use Rattle.jl_model.specs.declared.ty.Key.{Key}
use Rattle.jl_program.specs.declared.tree.Program.{Program}
use Rattle.jl_program.specs.declared.tree.Start.{Start}
use Rattle.jl_calculus.specs.declared.history.Change.{Change}
use Rattle.jl_calculus.specs.declared.history.Event.{Event}
use Rattle.jl_calculus.specs.declared.history.Event.TheVariants as Ev
use Rattle.jl_calculus.specs.declared.history.Record.{Record}
use Rattle.jl_calculus.specs.Legal.{IsChange, IsRunning, MayCome, OnDone}
use Rattle.jl_calculus.specs.Past.{tasks_of, done_of}
use Rattle.jl_calculus.specs.Ranges.{keys_of, rows_of}
use Rattle.jl_calculus.specs.ValidHistory.{IsValidEvent, IsValidRecord}
use Rattle.jl_calculus.specs.ValidStart.{IsValidStart}
use Rattle.jl_calculus.specs.World.{changes, change_event}
use Rattle.jl_calculus.proofs.GrowthLemmas.{keys_append}
use Rattle.jl_methods.specs.declared.index.Index.{Index}
use Rattle.jl_methods.specs.Indexed.{AreFilters, IsIndexOf, noted_in}
use Rattle.jl_world.specs.declared.about.About.{About}
use Rattle.jl_world.specs.declared.view.BookView.{BookView}
use Rattle.jl_world.specs.Rule.{IsHistory, first_events}
use Rattle.jl_book.specs.Books.{HasParts, at_rest}
use Rattle.jl_book.specs.Tasks.{HasEnds, IsEndAt}
use Rattle.jl_book.proofs.ChangeEvents.{change_comes, change_valid, change_has_place, change_is_narrow, change_ends_none, change_done, change_tasks, change_keys}
use Rattle.jl_book.proofs.Counting.{count_kept, count_spawned, count_ended}
use Rattle.jl_book.proofs.Ends.{ends_kept, ends_spawned, ends_ended}
use Rattle.jl_book.proofs.Pushing.{IsEnd, book_push, first_book, history_push, last_may}
use Rattle.jl_book.proofs.Stays.{index_kept}

-- an event that names no key leaves the keys as they are
keys_stay : (es : List Event) (e : Event) → keys_of (e ∷ []) ≡ [] → keys_of es ≡ keys_of (es ++ e ∷ [])
keys_stay es e none = sym (keys_append es (e ∷ []) ∙ ap (λ ks. keys_of es ++ ks) none ∙ append-nil (keys_of es))

module _ (about : About) (es : List Event) (seat : BookView) (kept : List Event) (index : Index) (keys : List Key) (ends : List (Option ℕ)) (n : ℕ) (h : HasParts about es seat kept index keys ends n) where
  abbrev P : Program
  P = about.program.value

  -- the parts at the same events, whatever changed in the seat in between
  pub parts_met : (now : BookView) → now ≡ at_rest es → HasParts about now.events now kept index keys ends n
  parts_met now is = subst (λ (s : BookView). HasParts about s.events s kept index keys ends n) (sym is)
      (record { knows = refl; keeps = h.keeps; book = h.book; filters = h.filters; named = h.named; ended = h.ended; counted = h.counted })

  -- and where room was taken or refused: what the index has noted is the same
  pub parts_kept : (now : BookView) (then : List Event) (next : Index) (many : List Key) → now ≡ seat → then ≡ kept → noted_in next ≡ noted_in index → many ≡ keys → HasParts about now.events now then next many ends n
  parts_kept now then next many seat_is then_is noted many_is =
      let filters = subst (AreFilters P (changes es) (keys_of es) (rows_of es)) (sym noted) h.filters in
      subst (λ (s : BookView). HasParts about s.events s then next many ends n) (sym (seat_is ∙ h.knows))
      (record { knows = refl; keeps = then_is ∙ h.keeps; book = h.book; filters = filters; named = many_is ∙ h.named; ended = h.ended; counted = h.counted })

  -- an event that starts and ends no task, for which the index had room
  pub parts_added : (Q : Program) → Q ≡ P → (e : Event) (now : BookView) (then : List Event) (before next : Index) (many : List Key)
      → now ≡ at_rest (es ++ e ∷ []) → then ≡ kept ++ e ∷ [] → IsHistory about (es ++ e ∷ []) → IsValidEvent P e → OnDone (IsEnd about es) e
      → ((t : ℕ) → done_of t (e ∷ []) ≡ None) → tasks_of (e ∷ []) ≡ 1 → many ≡ keys ++ keys_of (e ∷ [])
      → noted_in before ≡ noted_in index → ((xs : List Event) → IsIndexOf Q xs before → MayCome Q xs e → IsIndexOf Q (xs ++ e ∷ []) next)
      → HasParts about now.events now then next many ends n
  parts_added Q same e now then before next many seat_is then_is history valid ends_so none one count noted step =
      let kept_index : IsIndexOf Q es before = subst (λ p. IsIndexOf p es before) (sym same) (subst (AreFilters P (changes es) (keys_of es) (rows_of es)) (sym noted) h.filters) in
      let may = subst (λ p. MayCome p es e) (sym same) (last_may about es e history) in
      let filters = subst (λ p. IsIndexOf p (es ++ e ∷ []) next) same (step es kept_index may) in
      subst (λ (s : BookView). HasParts about s.events s then next many ends n) (sym seat_is)
      (record {
        knows = refl;
        keeps = then_is ∙ ap (λ xs. xs ++ e ∷ []) h.keeps;
        book = book_push about es e h.book history valid ends_so;
        filters = filters;
        named = count ∙ ap (λ ks. ks ++ keys_of (e ∷ [])) h.named ∙ sym (keys_append es (e ∷ []));
        ended = ends_kept es e ends none one h.ended;
        counted = h.counted ∙ sym (count_kept es e none one);
      })

  -- a change
  pub parts_changed : (Q : Program) → Q ≡ P → (task : ℕ) (change : Change) → IsChange P es task change → (now : BookView) (then : List Event) (before next : Index)
      → now ≡ at_rest (es ++ change_event task change ∷ []) → then ≡ kept ++ change_event task change ∷ [] → noted_in before ≡ noted_in index
      → ((xs : List Event) → IsIndexOf Q xs before → MayCome Q xs (change_event task change) → IsIndexOf Q (xs ++ change_event task change ∷ []) next)
      → HasParts about now.events now then next keys ends n
  parts_changed Q same task change may now then before next seat_is then_is noted step =
      let e = change_event task change in
      parts_added Q same e now then before next keys seat_is then_is
      (history_push about es e h.book.history (change_comes task P es change may) (change_has_place task about es change) (change_is_narrow task change))
      (change_valid task P es change may.may) (change_ends_none task (IsEnd about es) change) (change_done task change) (change_tasks task change)
      (sym (ap (λ ks. keys ++ ks) (change_keys task change) ∙ append-nil keys)) noted step

  -- a spawn
  pub parts_spawned : (task child : ℕ) (start : Start) (now : BookView) (then : List Event) (places : List (Option ℕ)) (m : ℕ)
      → now ≡ at_rest (es ++ Ev.Spawn task child start ∷ []) → then ≡ kept ++ Ev.Spawn task child start ∷ [] → places ≡ ends ++ None ∷ [] → m ≡ n + 1
      → MayCome P es (Ev.Spawn task child start) → IsValidStart P start
      → HasParts about now.events now then index keys places m
  parts_spawned task child start now then places m seat_is then_is places_are m_is may valid =
      let e : Event = Ev.Spawn task child start in
      subst (λ (s : BookView). HasParts about s.events s then index keys places m) (sym seat_is)
      (record {
        knows = refl;
        keeps = then_is ∙ ap (λ xs. xs ++ e ∷ []) h.keeps;
        book = book_push about es e h.book (history_push about es e h.book.history may tt tt) valid tt;
        filters = index_kept P index es e refl refl refl h.filters;
        named = h.named ∙ keys_stay es e refl;
        ended = subst (λ xs. HasEnds (es ++ e ∷ []) xs) (sym places_are) (ends_spawned es e ends (λ t. refl) refl h.ended);
        counted = m_is ∙ ap (λ k. k + 1) h.counted ∙ sym (count_spawned P es task child start h.book.legal.stand);
      })

  -- the end of a task
  pub parts_ended : (task : ℕ) (r : Record) (now : BookView) (then : List Event) (places : List (Option ℕ)) (m : ℕ)
      → now ≡ at_rest (es ++ Ev.Done task r ∷ []) → then ≡ kept ++ Ev.Done task r ∷ [] → places ≡ set ends task (Some (length kept)) → m + 1 ≡ n
      → IsRunning es task → IsValidRecord P r → IsEnd about es task r
      → HasParts about now.events now then index keys places m
  parts_ended task r now then places m seat_is then_is places_are m_is run valid end =
      let e : Event = Ev.Done task r in
      let set_is : places ≡ set ends task (Some (length es)) = places_are ∙ ap (λ xs. set ends task (Some (length xs))) h.keeps in
      subst (λ (s : BookView). HasParts about s.events s then index keys places m) (sym seat_is)
      (record {
        knows = refl;
        keeps = then_is ∙ ap (λ xs. xs ++ e ∷ []) h.keeps;
        book = book_push about es e h.book (history_push about es e h.book.history run tt tt) valid end;
        filters = index_kept P index es e refl refl refl h.filters;
        named = h.named ∙ keys_stay es e refl;
        ended = subst (λ xs. HasEnds (es ++ e ∷ []) xs) (sym set_is) (ends_ended es task r ends run.started run.going h.ended);
        counted = omega (arith, m_is, h.counted, count_ended es task r run);
      })

-- a book that only has its Begin
pub first_parts : (about : About) (now : BookView) (kept : List Event) (index : Index) (keys : List Key) (ends : List (Option ℕ)) (Q : Program) → Q ≡ about.program.value
    → now ≡ at_rest (first_events about) → kept ≡ first_events about → IsHistory about (first_events about) → IsIndexOf Q [] index → keys ≡ [] → ends ≡ None ∷ []
    → HasParts about now.events now kept index keys ends 1
first_parts about now kept index keys ends Q same seat_is kept_is history filters keys_are ends_are =
    subst (λ (s : BookView). HasParts about s.events s kept index keys ends 1) (sym seat_is)
    (record {
      knows = refl;
      keeps = kept_is;
      book = first_book about history;
      filters = subst (λ p. IsIndexOf p (first_events about) index) same filters;
      named = keys_are;
      ended = subst (HasEnds (first_events about)) (sym ends_are) (record { all = refl; each = each });
      counted = refl;
    })
  where
    each : (t : ℕ) → IsEndAt (first_events about) t (get_or (None ∷ []) t None)
    each zero = refl
    each (suc t) = refl
