-- The first entry that a run differs from.
use Rattle.std.proofs.Common.{◌≡◌, ◌∙◌, ap, sym, subst, refl, ℕ, false, IsTrue, List, [], ◌∷◌, ◌++◌, length, slice_get, Some, None}
use Rattle.std.proofs.lemmas.Option.{slice_get_within}
use Rattle.jl_program.specs.declared.tree.Program.{Program}
use Rattle.jl_calculus.specs.declared.history.Event.{Event}
use Rattle.jl_calculus.specs.declared.history.Event.TheVariants as Ev
use Rattle.jl_calculus.specs.declared.history.Record.{Record}
use Rattle.jl_calculus.specs.declared.history.TraceItem.{TraceItem}
use Rattle.jl_calculus.specs.Legal.{fuel_of, HasRun, IsLegal}
use Rattle.jl_calculus.specs.Past.{own_starts}
use Rattle.jl_calculus.specs.Ranges.{keys_of}
use Rattle.jl_calculus.specs.Run.{a_definition, a_deletion, a_spawn}
use Rattle.jl_calculus.proofs.GrowthLemmas.{get_more}
use Rattle.jl_lead.specs.Coming.{ComesTo, TellsDefinition, TellsDeletion, TellsSpawn, RunsSo, IsNoRun, IsTheRun}
use Rattle.jl_lead.proofs.EventFacts.{goes_self}
use Rattle.jl_report.specs.declared.entry.Step.{Step}
use Rattle.jl_report.specs.declared.entry.Step.TheVariants as S
use Rattle.jl_report.specs.declared.entry.Ending.{Ending}
use Rattle.jl_report.specs.declared.entry.Entry.{Entry}
use Rattle.jl_report.specs.declared.entry.Entry.TheVariants as E
use Rattle.jl_report.specs.HistoryText.{entry_of, entries_of}
use Rattle.jl_replay.specs.declared.running.Running.{Running}
use Rattle.jl_replay.specs.Told.{trace_told, items_told}
use Rattle.jl_replay.specs.Moves.{told_so_far}
use Rattle.jl_replay.specs.Differs.{IsMadeByRun}
use Rattle.jl_replay.specs.Following.{AreReplayed, AreJudged, IsDifference, IsToldBy}
use Rattle.jl_replay.proofs.Next.{IsNextStep, IsLastStep}
use Rattle.jl_replay.proofs.Lists.{each_in, entry_next}
use Rattle.jl_replay.proofs.ByEntry.{def_with, del_with, spawn_with, end_with}
use Rattle.jl_replay.proofs.Replayed.{one_run, legal_next, legal_definition, legal_deletion, legal_spawn, legal_end}

nothing : IsTrue false → ⊥
nothing h = absurd (cc h)

module _ (P : Program) (all : List Entry) (j : AreJudged P all) where
  module _ (es : List Event) (h : AreReplayed P all es) where
    -- no event of this entry is made by a run, and there is none in a legal history
    differs_at : (x : Entry) → slice_get all (length es) ≡ Some x → ((e : Event) → entry_of P (length (keys_of es)) e ≡ x → IsMadeByRun P all es e → ⊥)
        → ((xs : List Event) → IsLegal P xs → entries_of P xs ≡ all → (e : Event) → slice_get xs (length es) ≡ Some e → entry_of P (length (keys_of es)) e ≡ x → ⊥)
        → IsDifference P all (length es)
    differs_at x there none unlike =
        record {
          first = record {
            there = slice_get_within all (length es) x there;
            before = es;
            count = refl;
            replays = record { rest = h.rest; told = h.told; made = h.made };
            differs = λ e more.
                let at : slice_get all (length es) ≡ Some (entry_of P (length (keys_of es)) e) =
                ap (λ xs. slice_get xs (length es)) (sym more.told) ∙ get_more (entries_of P (es ++ e ∷ [])) more.rest (length es) (entry_of P (length (keys_of es)) e) (entry_next P es [] e)
                in
                let is : entry_of P (length (keys_of es)) e ≡ x = (let z : Some (entry_of P (length (keys_of es)) e) ≡ Some x = sym at ∙ there in cc) in
                none e is (each_in (IsMadeByRun P all) es [] e more.made);
          };
          illegal = λ l.
              let (xs, legal, told) = l in
              let (e, at, is) = legal_next P all j es h x there xs legal told in
              unlike xs legal told e at is;
        }

    pub definition_differs : (task site : ℕ) → slice_get all (length es) ≡ Some (E.Def task site) → (r : Running) → IsNextStep P all es task r (S.Def site (length es)) → (fuel : ℕ)
        → TellsDefinition P es task fuel (told_so_far es (trace_told task all) r.told) site false → fuel_of es ≡ Some fuel → IsDifference P all (length es)
    definition_differs task site there r next fuel tells f =
        differs_at (E.Def task site) there
        (λ e is made.
        let made_so : IsMadeByRun P all es (Ev.Def task site) = subst (IsMadeByRun P all es) (def_with P (length (keys_of es)) e task site is) made in
        nothing ((tells es (goes_self es)).1 (subst (λ ss. ComesTo P es task es fuel (items_told es ss) (a_definition site)) next.before (made_so fuel f))))
        (λ xs l t e at is.
        let (ys, goes, comes) = legal_definition P all j es h xs l t task site (at ∙ ap Some (def_with P (length (keys_of es)) e task site is)) in
        nothing ((tells ys goes).1 (subst (λ ss. ComesTo P es task ys fuel (items_told es ss) (a_definition site)) next.before (comes fuel f))))

    pub deletion_differs : (task place : ℕ) → slice_get all (length es) ≡ Some (E.Del task place) → (r : Running) → IsNextStep P all es task r (S.Del place (length es)) → (fuel : ℕ)
        → TellsDeletion P es task fuel (told_so_far es (trace_told task all) r.told) place false → fuel_of es ≡ Some fuel → IsDifference P all (length es)
    deletion_differs task place there r next fuel tells f =
        differs_at (E.Del task place) there
        (λ e is made.
        let made_so : IsMadeByRun P all es (Ev.Del task place) = subst (IsMadeByRun P all es) (del_with P (length (keys_of es)) e task place is) made in
        nothing ((tells es (goes_self es)).1 (subst (λ ss. ComesTo P es task es fuel (items_told es ss) (a_deletion place)) next.before (made_so fuel f))))
        (λ xs l t e at is.
        let (ys, goes, comes) = legal_deletion P all j es h xs l t task place (at ∙ ap Some (del_with P (length (keys_of es)) e task place is)) in
        nothing ((tells ys goes).1 (subst (λ ss. ComesTo P es task ys fuel (items_told es ss) (a_deletion place)) next.before (comes fuel f))))

    pub spawn_differs : (task child place : ℕ) → slice_get all (length es) ≡ Some (E.Spawn task child place) → (r : Running) → IsNextStep P all es task r (S.Spawn child (length es)) → (fuel : ℕ)
        → TellsSpawn P es task fuel (told_so_far es (trace_told task all) r.told) place false → fuel_of es ≡ Some fuel → IsDifference P all (length es)
    spawn_differs task child place there r next fuel tells f =
        differs_at (E.Spawn task child place) there
        (λ e is made.
        let k = spawn_with P (length (keys_of es)) e task child place is in
        let made_so : IsMadeByRun P all es (Ev.Spawn task child k.start) = subst (IsMadeByRun P all es) k.is made in
        nothing ((tells es (goes_self es)).1 (k.start, k.at, subst (λ ss. ComesTo P es task es fuel (items_told es ss) (a_spawn k.start)) next.before (made_so fuel f))))
        (λ xs l t e at is.
        let k = spawn_with P (length (keys_of es)) e task child place is in
        let (ys, goes, comes) = legal_spawn P all j es h xs l t task child k.start (at ∙ ap Some k.is) in
        nothing ((tells ys goes).1 (k.start, k.at, subst (λ ss. ComesTo P es task ys fuel (items_told es ss) (a_spawn k.start)) next.before (comes fuel f))))

    -- ---- the end of a task

    module _ (task calls : ℕ) (trace : List Step) (output : List ℕ) (ending : Ending) (there : slice_get all (length es) ≡ Some (E.Done task calls trace output ending)) (r : Running) (last : IsLastStep P all es task r trace) (fuel : ℕ) (f : fuel_of es ≡ Some fuel) where
      abbrev due : List TraceItem
      due = told_so_far es (trace_told task all) r.told

      whole : items_told es (trace_told task all) ≡ due
      whole = ap (items_told es) last.whole

      -- where what a task did, if it is a run of its trace, is not what the entry tells
      end_unlike : ((ended : Record) → ended.trace ≡ due → HasRun P None es task ended → IsToldBy P ended calls output ending → ⊥) → IsDifference P all (length es)
      end_unlike unlike =
          differs_at (E.Done task calls trace output ending) there
          (λ e is made.
          let k = end_with P (length (keys_of es)) e task calls trace output ending is in
          let made_so : IsMadeByRun P all es (Ev.Done task k.ended) = subst (IsMadeByRun P all es) k.is made in
          unlike k.ended (made_so.0 ∙ whole) made_so.1 (record { calls_are = k.calls_are; output_is = k.output_is; ending_is = k.ending_is }))
          (λ xs l t e at is.
          let k = end_with P (length (keys_of es)) e task calls trace output ending is in
          let made_so = legal_end P all j es h xs l t task k.ended (at ∙ ap Some k.is) in
          unlike k.ended (made_so.0 ∙ whole) made_so.1 (record { calls_are = k.calls_are; output_is = k.output_is; ending_is = k.ending_is }))

      pub end_differs : IsNoRun P es task fuel (told_so_far es (trace_told task all) r.told) → IsDifference P all (length es)
      end_differs none =
          end_unlike (λ ended is run told.
          none es (goes_self es) ended.outcome ended.output ended.calls (own_starts task es)
          (subst (λ is. RunsSo P es task es fuel is ended.outcome ended.output ended.calls (own_starts task es)) is (run fuel f)))

      pub text_differs : (ended : Record) → IsTheRun P es task fuel (told_so_far es (trace_told task all) r.told) ended → (IsToldBy P ended calls output ending → ⊥) → IsDifference P all (length es)
      text_differs ended run unlike =
          end_unlike (λ other is runs told. unlike (subst (λ q. IsToldBy P q calls output ending) (one_run P es task fuel due ended run f other is runs) told))
