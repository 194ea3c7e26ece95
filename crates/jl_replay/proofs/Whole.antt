-- The end: all entries are those of a legal history, where each is of an event that the runs make.
use Rattle.std.proofs.Common.{◌≡◌, ◌∙◌, ap, sym, subst, List, [], ◌++◌, length, append-nil, None}
use Rattle.jl_program.specs.declared.tree.Program.{Program}
use Rattle.jl_calculus.specs.declared.history.Event.{Event}
use Rattle.jl_calculus.specs.declared.history.Event.TheVariants as Ev
use Rattle.jl_calculus.specs.Legal.{HasRun, OnDone, AreRuns}
use Rattle.jl_report.specs.declared.entry.Entry.{Entry}
use Rattle.jl_report.specs.HistoryText.{entries_of}
use Rattle.jl_causes.specs.Causes.{StartWell, HasNoCause}
use Rattle.jl_causes.proofs.LawLemmas.{no_cause_is_legal}
use Rattle.jl_replay.specs.Differs.{IsMadeByRun, AreLegalEntries}
use Rattle.jl_replay.specs.Following.{AreReplayed, AreJudged}
use Rattle.jl_replay.proofs.FirstRound.{keys_are, fetches_are}
use Rattle.jl_replay.proofs.Lists.{no_more, each_to, entries_length}

module _ (P : Program) (all : List Entry) (j : AreJudged P all) where
  run_of : (past : List Event) (e : Event) → IsMadeByRun P all past e → OnDone (HasRun P None past) e
  run_of past (Ev.Begin fuel) h = tt
  run_of past (Ev.Key key) h = tt
  run_of past (Ev.Fill key site first) h = tt
  run_of past (Ev.Def task site) h = tt
  run_of past (Ev.Del task place) h = tt
  run_of past (Ev.Spawn task child start) h = tt
  run_of past (Ev.Done task ended) h = h.1

  runs_are : (es : List Event) → AreReplayed P all es → AreRuns P None es
  runs_are es h = each_to (IsMadeByRun P all) (λ past. OnDone (HasRun P None past)) run_of [] es h.made

  whole_told : (es : List Event) → AreReplayed P all es → length es ≡ length all → entries_of P es ≡ all
  whole_told es h many =
      let none = no_more (entries_of P es) h.rest (ap length h.told ∙ sym many ∙ sym (entries_length P 0 es)) in
      sym (append-nil (entries_of P es)) ∙ ap (λ xs. entries_of P es ++ xs) (sym none) ∙ h.told

  pub all_legal : (es : List Event) → AreReplayed P all es → length es ≡ length all → AreLegalEntries P all
  all_legal es h many =
      let told = whole_told es h many in
      let (stand, traced, finished) =
      no_cause_is_legal P es j.apart (keys_are P all j es h.made) (fetches_are P all j es h.made) (subst StartWell (sym told) j.well) (subst (HasNoCause P) (sym told) j.clean)
      in
      (es, record { so_far = record { stand = stand; traced = traced; runs = runs_are es h }; finished = finished }, told)
