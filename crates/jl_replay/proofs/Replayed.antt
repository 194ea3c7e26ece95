-- One more event of those that the entries tell.
use Rattle.std.proofs.Common.{◌≡◌, ◌∙◌, ap, sym, subst, refl, ℕ, ◌+◌, arith, true, List, [], ◌∷◌, ◌++◌, length, take, append_assoc, length-append, slice_get, Some, None}
use Rattle.jl_model.specs.declared.ty.Key.{Key}
use Rattle.jl_program.specs.declared.tree.Program.{Program}
use Rattle.jl_program.specs.declared.tree.Start.{Start}
use Rattle.jl_calculus.specs.declared.history.Event.{Event}
use Rattle.jl_calculus.specs.declared.history.Event.TheVariants as Ev
use Rattle.jl_calculus.specs.declared.history.Record.{Record}
use Rattle.jl_calculus.specs.declared.history.TraceItem.{TraceItem}
use Rattle.jl_calculus.specs.Legal.{fuel_of, HasRun, IsLegal}
use Rattle.jl_calculus.specs.Past.{tasks_of, own_starts}
use Rattle.jl_calculus.specs.Ranges.{keys_of}
use Rattle.jl_calculus.specs.Run.{a_definition, a_deletion, a_spawn}
use Rattle.jl_lead.specs.Coming.{ComesTo, TellsDefinition, TellsDeletion, TellsSpawn, RunsSo, IsTheRun}
use Rattle.jl_lead.specs.Leads.{GoesOn}
use Rattle.jl_lead.proofs.EventFacts.{goes_self}
use Rattle.jl_report.specs.declared.entry.Step.{Step}
use Rattle.jl_report.specs.declared.entry.Step.TheVariants as S
use Rattle.jl_report.specs.declared.entry.Ending.{Ending}
use Rattle.jl_report.specs.declared.entry.Entry.{Entry}
use Rattle.jl_report.specs.declared.entry.Entry.TheVariants as E
use Rattle.jl_report.specs.HistoryText.{steps_of, entry_of, entries_of}
use Rattle.jl_causes.specs.declared.cause.Cause.TheVariants as C
use Rattle.jl_causes.specs.Sketch.{Names, AllTell}
use Rattle.jl_causes.specs.Causes.{IsClean}
use Rattle.jl_causes.proofs.SketchLemmas.{tell_take}
use Rattle.jl_replay.specs.declared.running.Running.{Running}
use Rattle.jl_replay.specs.Told.{trace_told, items_told}
use Rattle.jl_replay.specs.Moves.{told_so_far}
use Rattle.jl_replay.specs.Differs.{IsMadeByRun}
use Rattle.jl_replay.specs.Following.{AreReplayed, AreJudged, IsToldBy, IsKeyAt}
use Rattle.jl_replay.proofs.Next.{IsNextStep, IsLastStep}
use Rattle.jl_replay.proofs.Items.{steps_told}
use Rattle.jl_replay.proofs.Lists.{cut_at, get_front, take_front, take_next, each_push, entries_length, entries_more, entry_there, keys_told, tasks_told}
use Rattle.jl_replay.proofs.ByEntry.{key_with, fill_with, def_with, del_with, spawn_with, end_with, key_entry}
use Rattle.jl_replay.proofs.LegalLed.{IsLedSo, may_come, led_definition, led_deletion, led_spawn, led_end}

-- ---- the one run of a trace

module _ (P : Program) (es : List Event) (task fuel : ℕ) (trace : List TraceItem) (ended : Record) (run : IsTheRun P es task fuel trace ended) (f : fuel_of es ≡ Some fuel) where
  pub has_run : HasRun P None es task ended
  has_run other g =
      let same : fuel ≡ other = (let z : Some fuel ≡ Some other = sym f ∙ g in cc) in
      let ran : RunsSo P es task es fuel trace ended.outcome ended.output ended.calls (own_starts task es) =
      (run.exactly es (goes_self es) ended.outcome ended.output ended.calls (own_starts task es)).1 (refl, refl, refl, refl)
      in
      subst (λ is. RunsSo P es task es other is ended.outcome ended.output ended.calls (own_starts task es)) (sym run.trace_is)
      (subst (λ m. RunsSo P es task es m trace ended.outcome ended.output ended.calls (own_starts task es)) same ran)

  pub one_run : (other : Record) → other.trace ≡ trace → HasRun P None es task other → other ≡ ended
  one_run other is runs =
      let (o, out, calls, starts) =
      (run.exactly es (goes_self es) other.outcome other.output other.calls (own_starts task es)).0
      (subst (λ is. RunsSo P es task es fuel is other.outcome other.output other.calls (own_starts task es)) is (runs fuel f))
      in
      let same_trace : other.trace ≡ ended.trace = is ∙ sym run.trace_is in
      λ i. record { trace = same_trace i; outcome = o i; output = out i; calls = calls i }

module _ (P : Program) (all : List Entry) (j : AreJudged P all) where
  -- ---- one more event

  module _ (es : List Event) (h : AreReplayed P all es) where
    -- the entries so far
    front_told : take (length es) all ≡ entries_of P es
    front_told =
        ap (take (length es)) (sym h.told)
        ∙ ap (λ m. take m (entries_of P es ++ h.rest)) (sym (entries_length P 0 es))
        ∙ take_front (entries_of P es) h.rest

    -- the entries after one more
    told_more : (x : Entry) → slice_get all (length es) ≡ Some x → (e : Event) → entry_of P (length (keys_of es)) e ≡ x
        → (rest : List Entry) × (entries_of P (es ++ e ∷ []) ++ rest ≡ all)
    told_more x there e is =
        let at : slice_get (entries_of P es ++ h.rest) (length (entries_of P es)) ≡ Some x =
        ap (λ m. slice_get (entries_of P es ++ h.rest) m) (entries_length P 0 es) ∙ ap (λ xs. slice_get xs (length es)) h.told ∙ there
        in
        let (more, parts) = get_front (entries_of P es) h.rest x at in (
          more,
          ap (λ xs. xs ++ more) (entries_more P es [] e)
              ∙ append_assoc (entries_of P es) (entry_of P (length (keys_of es)) e ∷ []) more
              ∙ ap (λ y. entries_of P es ++ y ∷ more) is
              ∙ ap (λ ys. entries_of P es ++ ys) (sym parts)
              ∙ h.told,
        )

    pub replayed_more : (x : Entry) → slice_get all (length es) ≡ Some x → (e : Event) → entry_of P (length (keys_of es)) e ≡ x → IsMadeByRun P all es e
        → ((xs : List Event) → IsLegal P xs → entries_of P xs ≡ all → take (length es) xs ≡ es → slice_get xs (length es) ≡ Some e)
        → AreReplayed P all (es ++ e ∷ [])
    replayed_more x there e is made legal =
        let (more, told) = told_more x there e is in
        record {
          rest = more;
          told = told;
          made = each_push (IsMadeByRun P all) es e h.made made;
          legal = λ xs l t.
              let front = h.legal xs l t in
              ap (λ n. take n xs) (length-append es (e ∷ [])) ∙ take_next (length es) xs e (legal xs l t front) ∙ ap (λ ys. ys ++ e ∷ []) front;
        }

    -- the next event of a legal history
    pub legal_next : (x : Entry) → slice_get all (length es) ≡ Some x → (xs : List Event) → IsLegal P xs → entries_of P xs ≡ all
        → (e : Event) × (slice_get xs (length es) ≡ Some e) × (entry_of P (length (keys_of es)) e ≡ x)
    legal_next x there xs l t =
        let (e, at, is) = entry_there P 0 xs (length es) x (ap (λ ys. slice_get ys (length es)) t ∙ there) in
        let none : length (keys_of es) ≡ 0 + length (keys_of es) = omega arith in
        (e, at, ap (λ m. entry_of P m e) none ∙ ap (λ ys. entry_of P (0 + length (keys_of ys)) e) (sym (h.legal xs l t)) ∙ is)

    -- ---- a legal history with these entries

    module _ (xs : List Event) (l : IsLegal P xs) (t : entries_of P xs ≡ all) (e : Event) (at : slice_get xs (length es) ≡ Some e) where
      -- it is these events, the next one, and more
      IsAhead : List Event → Type 0
      IsAhead more = IsLegal P (es ++ e ∷ more) × (entries_of P (es ++ e ∷ more) ≡ all)

      ahead : (more : List Event) × IsLegal P (es ++ e ∷ more) × (entries_of P (es ++ e ∷ more) ≡ all)
      ahead =
          let (more, q) = cut_at xs (length es) e at in
          let parts : xs ≡ es ++ e ∷ more = q ∙ ap (λ ys. ys ++ e ∷ more) (h.legal xs l t) in
          (more, subst (IsLegal P) parts l, ap (entries_of P) (sym parts) ∙ t)

    pub legal_definition : (xs : List Event) → IsLegal P xs → entries_of P xs ≡ all → (task site : ℕ) → slice_get xs (length es) ≡ Some (Ev.Def task site) → IsLedSo P all es task (a_definition site)
    legal_definition xs l t task site at =
        let (more, legal, told) = ahead xs l t (Ev.Def task site) at in
        led_definition P all es more task site legal told

    pub legal_deletion : (xs : List Event) → IsLegal P xs → entries_of P xs ≡ all → (task place : ℕ) → slice_get xs (length es) ≡ Some (Ev.Del task place) → IsLedSo P all es task (a_deletion place)
    legal_deletion xs l t task place at =
        let (more, legal, told) = ahead xs l t (Ev.Del task place) at in
        led_deletion P all es more task place legal told

    pub legal_spawn : (xs : List Event) → IsLegal P xs → entries_of P xs ≡ all → (task child : ℕ) (start : Start) → slice_get xs (length es) ≡ Some (Ev.Spawn task child start) → IsLedSo P all es task (a_spawn start)
    legal_spawn xs l t task child start at =
        let (more, legal, told) = ahead xs l t (Ev.Spawn task child start) at in
        led_spawn P all es more task child start legal told

    pub legal_end : (xs : List Event) → IsLegal P xs → entries_of P xs ≡ all → (task : ℕ) (ended : Record) → slice_get xs (length es) ≡ Some (Ev.Done task ended) → IsMadeByRun P all es (Ev.Done task ended)
    legal_end xs l t task ended at =
        let (more, legal, told) = ahead xs l t (Ev.Done task ended) at in
        led_end P all es more task ended legal told

    -- ---- what the first round tells of the entry

    clean_there : (x : Entry) → slice_get all (length es) ≡ Some x → (ds : List Event) × AllTell P (entries_of P es) ds × IsClean P all ds x
    clean_there x there =
        let (ds, c) = j.clean in
        (take (length es) ds, subst (λ xs. AllTell P xs (take (length es) ds)) front_told (tell_take P (length es) all ds c.told), c.clean (length es) x there)

    pub key_number : (number : ℕ) (function tuple : List ℕ) → slice_get all (length es) ≡ Some (E.Key number function tuple) → length (keys_of es) ≡ number
    key_number number function tuple there =
        let (ds, told, clean) = clean_there (E.Key number function tuple) there in
        sym (keys_told P 0 es ds told) ∙ sym (clean C.KeyOrder).counted

    pub child_number : (task child at : ℕ) → slice_get all (length es) ≡ Some (E.Spawn task child at) → child ≡ tasks_of es
    child_number task child at there =
        let (ds, told, clean) = clean_there (E.Spawn task child at) there in
        clean C.ChildOrder ∙ tasks_told P 0 es ds told

    -- ---- each kind of entry

    pub key_more : (function tuple : List ℕ) → IsKeyAt (slice_get all (length es)) function tuple → (key : Key) → Names P function tuple key → AreReplayed P all (es ++ Ev.Key key ∷ [])
    key_more function tuple is_key key names =
        let (number, there) = key_entry (slice_get all (length es)) function tuple is_key in
        let counted = key_number number function tuple there in
        replayed_more (E.Key number function tuple) there (Ev.Key key) (λ i. E.Key (counted i) (names.by_function i) (names.by_types i)) names.proper
        (λ xs l t front.
        let (e, at, is) = legal_next (E.Key number function tuple) there xs l t in
        let k = key_with P (length (keys_of es)) e number function tuple is in
        let at_key : slice_get xs (length es) ≡ Some (Ev.Key k.key) = at ∙ ap Some k.is in
        let (more, legal, told) = ahead xs l t (Ev.Key k.key) at_key in
        let come = may_come P all es more (Ev.Key k.key) legal told in
        let named : Names P function tuple k.key = record { proper = come.proper; by_function = k.by_function; by_types = k.by_types } in
        at_key ∙ ap (λ z. Some (Ev.Key z)) (j.apart function tuple k.key key named names))

    pub fill_more : (key site first : ℕ) → slice_get all (length es) ≡ Some (E.Fill key site first) → AreReplayed P all (es ++ Ev.Fill key site first ∷ [])
    fill_more key site first there =
        replayed_more (E.Fill key site first) there (Ev.Fill key site first) refl tt
        (λ xs l t front.
        let (e, at, is) = legal_next (E.Fill key site first) there xs l t in
        at ∙ ap Some (fill_with P (length (keys_of es)) e key site first is))

    pub definition_more : (task site : ℕ) → slice_get all (length es) ≡ Some (E.Def task site) → (r : Running) → IsNextStep P all es task r (S.Def site (length es)) → (fuel : ℕ)
        → TellsDefinition P es task fuel (told_so_far es (trace_told task all) r.told) site true → fuel_of es ≡ Some fuel → AreReplayed P all (es ++ Ev.Def task site ∷ [])
    definition_more task site there r next fuel tells f =
        replayed_more (E.Def task site) there (Ev.Def task site) refl
        (λ other g.
        let same : fuel ≡ other = (let z : Some fuel ≡ Some other = sym f ∙ g in cc) in
        subst (λ ss. ComesTo P es task es other (items_told es ss) (a_definition site)) (sym next.before)
        (subst (λ m. ComesTo P es task es m (told_so_far es (trace_told task all) r.told) (a_definition site)) same ((tells es (goes_self es)).0 refl)))
        (λ xs l t front.
        let (e, at, is) = legal_next (E.Def task site) there xs l t in
        at ∙ ap Some (def_with P (length (keys_of es)) e task site is))

    pub deletion_more : (task place : ℕ) → slice_get all (length es) ≡ Some (E.Del task place) → (r : Running) → IsNextStep P all es task r (S.Del place (length es)) → (fuel : ℕ)
        → TellsDeletion P es task fuel (told_so_far es (trace_told task all) r.told) place true → fuel_of es ≡ Some fuel → AreReplayed P all (es ++ Ev.Del task place ∷ [])
    deletion_more task place there r next fuel tells f =
        replayed_more (E.Del task place) there (Ev.Del task place) refl
        (λ other g.
        let same : fuel ≡ other = (let z : Some fuel ≡ Some other = sym f ∙ g in cc) in
        subst (λ ss. ComesTo P es task es other (items_told es ss) (a_deletion place)) (sym next.before)
        (subst (λ m. ComesTo P es task es m (told_so_far es (trace_told task all) r.told) (a_deletion place)) same ((tells es (goes_self es)).0 refl)))
        (λ xs l t front.
        let (e, at, is) = legal_next (E.Del task place) there xs l t in
        at ∙ ap Some (del_with P (length (keys_of es)) e task place is))

    pub spawn_more : (task child place : ℕ) → slice_get all (length es) ≡ Some (E.Spawn task child place) → (r : Running) → IsNextStep P all es task r (S.Spawn child (length es)) → (fuel : ℕ)
        → TellsSpawn P es task fuel (told_so_far es (trace_told task all) r.told) place true → fuel_of es ≡ Some fuel → (start : Start) → start.spawn ≡ place
        → ((xs : List Event) → GoesOn es xs → (s : Start) → ComesTo P es task xs fuel (told_so_far es (trace_told task all) r.told) (a_spawn s) → s ≡ start)
        → AreReplayed P all (es ++ Ev.Spawn task (tasks_of es) start ∷ [])
    spawn_more task child place there r next fuel tells f start at_place only =
        let number = child_number task child place there in
        let (s, s_place, s_comes) = (tells es (goes_self es)).0 refl in
        let is_start : s ≡ start = only es (goes_self es) s s_comes in
        replayed_more (E.Spawn task child place) there (Ev.Spawn task (tasks_of es) start) (λ i. E.Spawn task (sym number i) (at_place i))
        (λ other g.
        let same : fuel ≡ other = (let z : Some fuel ≡ Some other = sym f ∙ g in cc) in
        subst (λ ss. ComesTo P es task es other (items_told es ss) (a_spawn start)) (sym next.before)
        (subst (λ m. ComesTo P es task es m (told_so_far es (trace_told task all) r.told) (a_spawn start)) same
        (subst (λ z. ComesTo P es task es fuel (told_so_far es (trace_told task all) r.told) (a_spawn z)) is_start s_comes)))
        (λ xs l t front.
        let (e, at, is) = legal_next (E.Spawn task child place) there xs l t in
        let k = spawn_with P (length (keys_of es)) e task child place is in
        let at_spawn : slice_get xs (length es) ≡ Some (Ev.Spawn task child k.start) = at ∙ ap Some k.is in
        let (ys, goes, comes) = legal_spawn xs l t task child k.start at_spawn in
        let one : k.start ≡ start =
        only ys goes k.start (subst (λ ss. ComesTo P es task ys fuel (items_told es ss) (a_spawn k.start)) next.before (comes fuel f))
        in
        at_spawn ∙ (λ i. Some (Ev.Spawn task (number i) (one i))))

    pub end_more : (task calls : ℕ) (trace : List Step) (output : List ℕ) (ending : Ending) → slice_get all (length es) ≡ Some (E.Done task calls trace output ending)
        → (r : Running) → IsLastStep P all es task r trace → (fuel : ℕ) (ended : Record) → IsTheRun P es task fuel (told_so_far es (trace_told task all) r.told) ended → fuel_of es ≡ Some fuel
        → IsToldBy P ended calls output ending → AreReplayed P all (es ++ Ev.Done task ended ∷ [])
    end_more task calls trace output ending there r last fuel ended run f told =
        let whole : told_so_far es (trace_told task all) r.told ≡ items_told es (trace_told task all) = ap (items_told es) (sym last.whole) in
        let trace_is : ended.trace ≡ items_told es (trace_told task all) = run.trace_is ∙ whole in
        let steps : steps_of ended.trace ≡ trace = ap steps_of trace_is ∙ steps_told es (trace_told task all) ∙ last.told in
        replayed_more (E.Done task calls trace output ending) there (Ev.Done task ended)
        (λ i. E.Done task (told.calls_are i) (steps i) (told.output_is i) (told.ending_is i))
        (trace_is, has_run P es task fuel (told_so_far es (trace_told task all) r.told) ended run f)
        (λ xs l t front.
        let (e, at, is) = legal_next (E.Done task calls trace output ending) there xs l t in
        let k = end_with P (length (keys_of es)) e task calls trace output ending is in
        let at_end : slice_get xs (length es) ≡ Some (Ev.Done task k.ended) = at ∙ ap Some k.is in
        let made = legal_end xs l t task k.ended at_end in
        at_end ∙ ap (λ z. Some (Ev.Done task z)) (one_run P es task fuel (told_so_far es (trace_told task all) r.told) ended run f k.ended (made.0 ∙ sym whole) made.1))
