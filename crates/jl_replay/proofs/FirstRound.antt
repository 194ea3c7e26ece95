-- What the first round gives at the next entry: the events as far as all entries tell them, and what may come.
use Rattle.std.proofs.Common.{◌≡◌, ◌∙◌, ap, sym, subst, refl, ℕ, ◌<◌, List, [], ◌∷◌, ◌++◌, length, take, drop, take-append-drop, slice_get, append-nil, Some}
use Rattle.std.specs.List.{All}
use Rattle.std.proofs.lemmas.List.{take_at}
use Rattle.std.proofs.lemmas.List.Elements.{All-nil, All-cons, All-head, All-tail}
use Rattle.jl_model.specs.declared.ty.Key.{Key}
use Rattle.jl_model.specs.declared.ty.Ty.TheVariants.{Tuple}
use Rattle.jl_program.specs.declared.tree.Program.{Program}
use Rattle.jl_program.specs.Text.{function_name, type_text}
use Rattle.jl_calculus.specs.declared.history.Event.{Event}
use Rattle.jl_calculus.specs.declared.history.Event.TheVariants as Ev
use Rattle.jl_calculus.specs.declared.history.Record.{Record}
use Rattle.jl_calculus.specs.Legal.{IsKeyOf, MayCome, MayStand, IsTraced, OnDone, EachAfter}
use Rattle.jl_calculus.specs.Past.{done_of}
use Rattle.jl_calculus.specs.Ranges.{keys_of}
use Rattle.jl_report.specs.declared.entry.Step.{Step}
use Rattle.jl_report.specs.declared.entry.Step.TheVariants as S
use Rattle.jl_report.specs.declared.entry.Entry.{Entry}
use Rattle.jl_report.specs.HistoryText.{steps_of, entry_of, keys_with, entries_from, entries_of}
use Rattle.jl_causes.specs.Sketch.{Names, Tells, AllTell}
use Rattle.jl_causes.specs.Causes.{AreClean}
use Rattle.jl_causes.specs.Laws.{AreApart, AreFetchesTold, TellsFetches}
use Rattle.jl_causes.proofs.SketchLemmas.{tell_take, event_at}
use Rattle.jl_causes.proofs.AlikeLemmas.{IsAlike, AreAlike, comes_to}
use Rattle.jl_causes.proofs.StandLemmas.{comes_at}
use Rattle.jl_causes.proofs.LawLemmas.{steps_items, no_cause_so_far}
use Rattle.jl_lead.proofs.EventFacts.{done_stays}
use Rattle.jl_replay.specs.Told.{trace_told, outcome_or_nothing, items_told}
use Rattle.jl_replay.specs.Differs.{IsMadeByRun}
use Rattle.jl_replay.specs.Following.{AreReplayed, AreJudged}
use Rattle.jl_replay.proofs.Lists.{entries_length}

-- a condition on the key of an event, where the event is one
abbrev pub OnKey : (Key → Type 0) → Event → Type 0
OnKey R (Ev.Key key) = R key
OnKey R (Ev.Begin fuel) = Unit {0}
OnKey R (Ev.Fill key site first) = Unit {0}
OnKey R (Ev.Def task site) = Unit {0}
OnKey R (Ev.Del task place) = Unit {0}
OnKey R (Ev.Spawn task child start) = Unit {0}
OnKey R (Ev.Done task ended) = Unit {0}

-- a task that has ended among the first events has ended so among all
pub done_whole : (task p : ℕ) (es : List Event) (r : Record) → done_of task (take p es) ≡ Some r → done_of task es ≡ Some r
done_whole task p es r at = subst (λ xs. done_of task xs ≡ Some r) (take-append-drop p es) (done_stays task (take p es) (drop p es) r at)

-- ---- the keys

module _ (P : Program) where
  key_first : (d : Event) (ds : List Event) → All (IsKeyOf P) (keys_of (d ∷ ds)) → OnKey (IsKeyOf P) d
  key_first (Ev.Key key) ds h = All-head (IsKeyOf P) key (keys_of ds) h
  key_first (Ev.Begin fuel) ds h = tt
  key_first (Ev.Fill number site first) ds h = tt
  key_first (Ev.Def task site) ds h = tt
  key_first (Ev.Del task place) ds h = tt
  key_first (Ev.Spawn task child start) ds h = tt
  key_first (Ev.Done task ended) ds h = tt

  key_rest : (d : Event) (ds : List Event) → All (IsKeyOf P) (keys_of (d ∷ ds)) → All (IsKeyOf P) (keys_of ds)
  key_rest (Ev.Key key) ds h = All-tail (IsKeyOf P) key (keys_of ds) h
  key_rest (Ev.Begin fuel) ds h = h
  key_rest (Ev.Fill number site first) ds h = h
  key_rest (Ev.Def task site) ds h = h
  key_rest (Ev.Del task place) ds h = h
  key_rest (Ev.Spawn task child start) ds h = h
  key_rest (Ev.Done task ended) ds h = h

  own_names : (key : Key) → IsKeyOf P key → Names P (function_name P key.function) (type_text P (Tuple key.types)) key
  own_names key h = record { proper = h; by_function = refl; by_types = refl }

  module _ (apart : AreApart P) where
    -- what the entry of an event tells is like the event
    pub alike_one : (k : ℕ) (d e : Event) → OnKey (IsKeyOf P) d → Tells P (entry_of P k d) e → IsAlike e d
    alike_one k (Ev.Begin fuel) e h t = subst (λ x. IsAlike x (Ev.Begin fuel)) (sym t) refl
    alike_one k (Ev.Key key) e h (other, named, is) = subst (λ x. IsAlike x (Ev.Key key)) (sym is) (ap Ev.Key (apart _ _ key other (own_names key h) named))
    alike_one k (Ev.Fill number site first) e h t = subst (λ x. IsAlike x (Ev.Fill number site first)) (sym t) refl
    alike_one k (Ev.Def task site) e h t = subst (λ x. IsAlike x (Ev.Def task site)) (sym t) refl
    alike_one k (Ev.Del task place) e h t = subst (λ x. IsAlike x (Ev.Del task place)) (sym t) refl
    alike_one k (Ev.Spawn task child start) e h t = subst (λ x. IsAlike x (Ev.Spawn task child start)) (sym t) (start, refl, refl)
    alike_one k (Ev.Done task ended) e h t = subst (λ x. IsAlike x (Ev.Done task ended)) (sym t) (ended, refl, sym (steps_items (steps_of ended.trace)))

    alike_each : (k : ℕ) (ds es : List Event) → All (IsKeyOf P) (keys_of ds) → AllTell P (entries_from P k ds) es → AreAlike es ds
    alike_each k [] es h t = subst (λ xs. AreAlike xs []) (sym t) refl
    alike_each k (d ∷ ds) [] h t = absurd t
    alike_each k (d ∷ ds) (e ∷ es) h t = (alike_one k d e (key_first d ds h) t.0, alike_each (keys_with k d) ds es (key_rest d ds h) t.1)

module _ (P : Program) (all : List Entry) where
  -- a key that may come is one of the program
  pub made_key : (es : List Event) (e : Event) → IsMadeByRun P all es e → OnKey (IsKeyOf P) e
  made_key es (Ev.Key key) m = m
  made_key es (Ev.Begin fuel) m = tt
  made_key es (Ev.Fill number site first) m = tt
  made_key es (Ev.Def task site) m = tt
  made_key es (Ev.Del task place) m = tt
  made_key es (Ev.Spawn task child start) m = tt
  made_key es (Ev.Done task ended) m = tt

  keys_made : (before es : List Event) → EachAfter (IsMadeByRun P all) before es → All (IsKeyOf P) (keys_of es)
  keys_made before [] h = All-nil (IsKeyOf P)
  keys_made before (Ev.Key key ∷ es) h = All-cons (IsKeyOf P) key (keys_of es) h.0 (keys_made (before ++ Ev.Key key ∷ []) es h.1)
  keys_made before (Ev.Begin fuel ∷ es) h = keys_made (before ++ Ev.Begin fuel ∷ []) es h.1
  keys_made before (Ev.Fill number site first ∷ es) h = keys_made (before ++ Ev.Fill number site first ∷ []) es h.1
  keys_made before (Ev.Def task site ∷ es) h = keys_made (before ++ Ev.Def task site ∷ []) es h.1
  keys_made before (Ev.Del task place ∷ es) h = keys_made (before ++ Ev.Del task place ∷ []) es h.1
  keys_made before (Ev.Spawn task child start ∷ es) h = keys_made (before ++ Ev.Spawn task child start ∷ []) es h.1
  keys_made before (Ev.Done task ended ∷ es) h = keys_made (before ++ Ev.Done task ended ∷ []) es h.1

-- ---- the fetches

-- what a step tells of a fetch is the outcome of the task, where it has ended by then
fetches_told : (es : List Event) (ss : List Step) → AreFetchesTold es (items_told es ss)
fetches_told es [] = tt
fetches_told es (S.Fetch task p ∷ ss) = ((λ ended at. sym (ap outcome_or_nothing (done_whole task p es ended at))), fetches_told es ss)
fetches_told es (S.Look w p ∷ ss) = (tt, fetches_told es ss)
fetches_told es (S.Def site p ∷ ss) = (tt, fetches_told es ss)
fetches_told es (S.Spawn child p ∷ ss) = (tt, fetches_told es ss)
fetches_told es (S.WorldFull p ∷ ss) = (tt, fetches_told es ss)
fetches_told es (S.TaskFull p ∷ ss) = (tt, fetches_told es ss)
fetches_told es (S.Del place p ∷ ss) = (tt, fetches_told es ss)
fetches_told es (S.Absent place p ∷ ss) = (tt, fetches_told es ss)

module _ (P : Program) (all : List Entry) where
  fetches_made : (before es : List Event) → EachAfter (IsMadeByRun P all) before es → EachAfter (λ past. OnDone (λ task ended. AreFetchesTold past ended.trace)) before es
  fetches_made before [] h = tt
  fetches_made before (Ev.Done task ended ∷ es) h =
      (subst (AreFetchesTold before) (sym h.0.0) (fetches_told before (trace_told task all)), fetches_made (before ++ Ev.Done task ended ∷ []) es h.1)
  fetches_made before (Ev.Begin fuel ∷ es) h = (tt, fetches_made (before ++ Ev.Begin fuel ∷ []) es h.1)
  fetches_made before (Ev.Key key ∷ es) h = (tt, fetches_made (before ++ Ev.Key key ∷ []) es h.1)
  fetches_made before (Ev.Fill number site first ∷ es) h = (tt, fetches_made (before ++ Ev.Fill number site first ∷ []) es h.1)
  fetches_made before (Ev.Def task site ∷ es) h = (tt, fetches_made (before ++ Ev.Def task site ∷ []) es h.1)
  fetches_made before (Ev.Del task place ∷ es) h = (tt, fetches_made (before ++ Ev.Del task place ∷ []) es h.1)
  fetches_made before (Ev.Spawn task child start ∷ es) h = (tt, fetches_made (before ++ Ev.Spawn task child start ∷ []) es h.1)

-- ---- the next entry

-- all events as far as the entries tell them; the first of them are like these
pub record Front (P : Program) (all : List Entry) (es : List Event) : Type 0 where
  pub ds : List Event
  pub clean : AreClean P all all ds
  pub alike : AreAlike (take (length es) ds) es

module _ (P : Program) (all : List Entry) (j : AreJudged P all) where
  pub keys_are : (es : List Event) → EachAfter (IsMadeByRun P all) [] es → All (IsKeyOf P) (keys_of es)
  keys_are es made = keys_made P all [] es made

  pub fetches_are : (es : List Event) → EachAfter (IsMadeByRun P all) [] es → TellsFetches es
  fetches_are es made = fetches_made P all [] es made

  pub stands : (es : List Event) → AreReplayed P all es → 0 < length es → MayStand P es × IsTraced P es
  stands es h l = no_cause_so_far P all h.rest es j.apart (keys_are es h.made) (fetches_are es h.made) j.well j.clean h.told l

  pub front : (es : List Event) → AreReplayed P all es → Front P all es
  front es h =
      let xs : List Entry = entries_of P es in
      let ds : List Event = j.clean.0 in
      let cut : AllTell P xs (take (length xs) ds) =
      subst (λ ys. AllTell P ys (take (length xs) ds)) (ap (take (length xs)) (sym h.told) ∙ take_at xs h.rest (length xs) refl) (tell_take P (length xs) all ds j.clean.1.told)
      in
      record {
        ds = ds;
        clean = j.clean.1;
        alike = subst (λ (n : ℕ). AreAlike (take n ds) es) (entries_length P 0 es) (alike_each P j.apart 0 es (take (length xs) ds) (keys_are es h.made) cut);
      }

  -- an event with the next entry may come, where its key is of the program
  pub may_come : (es : List Event) → AreReplayed P all es → (x : Entry) → slice_get all (length es) ≡ Some x → (e : Event) (k : ℕ) → entry_of P k e ≡ x → OnKey (IsKeyOf P) e → MayCome P es e
  may_come es h x at e k is proper =
      let f = front es h in
      let (d, there, tells) = event_at P all f.ds (length es) x f.clean.told at in
      comes_to P (take (length es) f.ds) es d e f.alike (alike_one P j.apart k e d proper (subst (λ y. Tells P y d) (sym is) tells))
      (comes_at P all j.well all f.ds [] (append-nil all) f.clean (length es) d there)
