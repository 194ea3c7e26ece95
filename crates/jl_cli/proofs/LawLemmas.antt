-- What is due, and what is answered, told by the status.
use Rattle.std.proofs.Common.{◌≡◌, ◌↔◌, ◌⊎◌, ◌<◌, inl, inr, ℕ, suc, List, Option, None, Some, refl, sym, subst, arith}
use Rattle.jl_calculus.specs.declared.history.History.{History}
use Rattle.jl_calculus.specs.declared.history.Outcome.{Outcome}
use Rattle.jl_calculus.specs.declared.history.Outcome.TheVariants as O
use Rattle.jl_calculus.specs.declared.history.Record.{Record}
use Rattle.jl_program.specs.declared.tree.Program.{Program}
use Rattle.jl_calculus.specs.Legal.{root_status, outcome_status}
use Rattle.jl_calculus.specs.Past.{done_of}
use Rattle.jl_queue.specs.declared.setup.Setup.{Setup}
use Rattle.jl_command.specs.declared.commands.Command.{Command}
use Rattle.jl_command.specs.declared.commands.Command.TheVariants as C
use Rattle.jl_replay.specs.declared.verdict.Verdict.{Verdict}
use Rattle.jl_replay.specs.declared.verdict.Verdict.TheVariants as V
use Rattle.jl_work.specs.declared.work.Work.{Work}
use Rattle.jl_work.specs.declared.work.Work.TheVariants as W
use Rattle.jl_work.specs.Work.{setup_of}
use Rattle.jl_work.specs.Owed.{ok_line, AreProgram, IsFaultLine, IsHistoryIn, IsResult, counted, ran, answered, IsOwed, refused, worked, unanswered}
use Rattle.jl_cli.specs.Split.{history_in}
use Rattle.jl_cli.specs.Verdicts.{verdict_status}
use Rattle.jl_cli.specs.Work.{script_of, work_of}
use Rattle.jl_cli.specs.Due.{usage_line, IsVerdictTold, IsJudged, unjudged, judged, IsReplayed, too_long, no_history, parted, IsDue, usage, replayed, owed, IsAnswer, whole, not_read, not_written, no_memory, no_memory_written}
use Rattle.jl_cli.specs.Laws.{ChecksTo, HasParts, IsHistoryOf, IsRefusalLine}

outcome_small : (x : Outcome) (n : ℕ) → outcome_status x ≡ suc (suc n) → ⊥
outcome_small (O.Value v) n e = absurd (omega (arith, e))
outcome_small (O.Error f) n e = absurd (omega (arith, e))

root_small : (o : Option Record) (n : ℕ) → root_status o ≡ suc (suc n) → ⊥
root_small None n e = absurd (omega (arith, e))
root_small (Some r) n e = outcome_small r.outcome n e

-- work on a program ends with status 0 or 1
pub result_small : (work : Work) (P : Program) (status : ℕ) (h : Option History) (text : List ℕ) (n : ℕ) → IsResult work P status h text → status ≡ suc (suc n) → ⊥
result_small _ _ _ _ _ n (counted P) e = absurd (omega (arith, e))
result_small _ _ _ _ _ n (ran setup telling P h text is told) e = root_small (done_of 0 h.events) n e
result_small _ _ _ _ _ n (answered setup question P h text is told) e = root_small (done_of 0 h.events) n e

-- a verdict has status 0 or 7
verdict_status_is : (v : Verdict) → (verdict_status v ≡ 0) ⊎ (verdict_status v ≡ 7)
verdict_status_is (V.Legal n) = inl refl
verdict_status_is (V.BadText line) = inr refl
verdict_status_is (V.Illegal n cause) = inr refl

pub told_status : (P : Program) (history : List ℕ) (status : ℕ) (text : List ℕ) → IsVerdictTold P history status text → (status ≡ 0) ⊎ (status ≡ 7)
told_status P history status text told = subst (λ (n : ℕ). (n ≡ 0) ⊎ (n ≡ 7)) (sym told.2) (verdict_status_is told.0)

-- so it is none of the others
pub told_other : (P : Program) (history : List ℕ) (status : ℕ) (text : List ℕ) (n : ℕ) → IsVerdictTold P history status text → status ≡ suc (suc n) → n < 5 → ⊥
told_other P history status text n told e few = other status (told_status P history status text told) e
  where
    other : (status : ℕ) → (status ≡ 0) ⊎ (status ≡ 7) → status ≡ suc (suc n) → ⊥
    other status (inl z) e = absurd (omega (arith, z, e))
    other status (inr z) e = absurd (omega (arith, z, e, few))

-- ---- status 2

judged_other : (script history : List ℕ) (status : ℕ) (text : List ℕ) → IsJudged script history status text → status ≡ 2 → ⊥
judged_other _ _ _ _ (unjudged script history line fault) e = absurd (omega (arith, e))
judged_other _ _ _ _ (judged script history P status text are told) e = told_other P history status text 0 told e (omega arith)

replayed_other : (bytes : List ℕ) (status : ℕ) (text : List ℕ) → IsReplayed bytes status text → status ≡ 2 → ⊥
replayed_other _ _ _ (too_long bytes long) e = absurd (omega (arith, e))
replayed_other _ _ _ (no_history bytes short none_) e = absurd (omega (arith, e))
replayed_other _ _ _ (parted bytes status text has j) e = judged_other (script_of C.Replay bytes) (history_in bytes) status text j e

owed_other : (work : Work) (script : List ℕ) (status : ℕ) (h : Option History) (text : List ℕ) → IsOwed work script status h text → status ≡ 2 → ⊥
owed_other _ _ _ _ _ (refused work script line fault) e = absurd (omega (arith, e))
owed_other _ _ _ _ _ (worked work script P status h text are result) e = result_small work P status h text 0 result e
owed_other _ _ _ _ _ (unanswered setup question script P are none_) e = absurd (omega (arith, e))

pub usage_law : (asked : Option Command) (bytes : List ℕ) (status : ℕ) (h : Option History) (text : List ℕ) → IsDue asked bytes status h text → (status ≡ 2) ↔ (asked ≡ None)
usage_law _ _ _ _ _ usage = (λ e. refl, λ e. refl)
usage_law _ _ _ _ _ (replayed bytes status text r) = (λ e. absurd (replayed_other bytes status text r e), λ e. cc)
usage_law _ _ _ _ _ (owed c work bytes status h text works o) = (λ e. absurd (owed_other work (script_of c bytes) status h text o e), λ e. cc)

-- ---- what `check` owes

result_checked : (work : Work) (P : Program) (status : ℕ) (h : Option History) (text : List ℕ) → IsResult work P status h text → work ≡ W.Check → (h ≡ None) × (status ≡ 0) × (text ≡ ok_line P)
result_checked _ _ _ _ _ (counted P) e = (refl, refl, refl)
result_checked _ _ _ _ _ (ran setup telling P h text is told) e = cc
result_checked _ _ _ _ _ (answered setup question P h text is told) e = cc

owed_checked : (work : Work) (script : List ℕ) (status : ℕ) (h : Option History) (text : List ℕ) → IsOwed work script status h text → work ≡ W.Check → ChecksTo script status h text
owed_checked _ _ _ _ _ (refused work script line fault) e = (refl, inr (refl, fault))
owed_checked _ _ _ _ _ (worked work script P status h text are result) e =
    let r = result_checked work P status h text result e in (r.0, inl (P, are, r.1, r.2))
owed_checked _ _ _ _ _ (unanswered setup question script P are none_) e = cc

check_to : (asked : Option Command) (bytes : List ℕ) (status : ℕ) (h : Option History) (text : List ℕ) → IsDue asked bytes status h text → asked ≡ Some C.Check → ChecksTo bytes status h text
check_to _ _ _ _ _ usage e = cc
check_to _ _ _ _ _ (replayed bytes status text r) e = cc
check_to _ _ _ _ _ (owed c work bytes status h text works o) e =
    let is : c ≡ C.Check = cc in
    let same : Some W.Check ≡ Some work = subst (λ (x : Command). work_of x ≡ Some work) is works in
    let back : work ≡ W.Check = cc in
    owed_checked work bytes status h text (subst (λ (x : Command). IsOwed work (script_of x bytes) status h text) is o) back

due_so : (bytes : List ℕ) (status status' : ℕ) (h h' : Option History) (text text' : List ℕ) → status ≡ status' → h ≡ h' → text ≡ text' → IsDue (Some C.Check) bytes status' h' text' → IsDue (Some C.Check) bytes status h text
due_so bytes status status' h h' text text' e f g due =
    subst (λ (n : ℕ). IsDue (Some C.Check) bytes n h text) (sym e)
    (subst (λ (o : Option History). IsDue (Some C.Check) bytes status' o text) (sym f) (subst (λ (t : List ℕ). IsDue (Some C.Check) bytes status' h' t) (sym g) due))

check_from : (bytes : List ℕ) (status : ℕ) (h : Option History) (text : List ℕ) → ChecksTo bytes status h text → IsDue (Some C.Check) bytes status h text
check_from bytes status h text (e, inl (P, are, f, g)) =
    due_so bytes status 0 h None text (ok_line P) f e g (owed C.Check W.Check bytes 0 None (ok_line P) refl (worked W.Check bytes P 0 None (ok_line P) are (counted P)))
check_from bytes status h text (e, inr (f, fault)) = due_so bytes status 3 h None text text f e refl (owed C.Check W.Check bytes 3 None text refl (refused W.Check bytes text fault))

pub check_law : (bytes : List ℕ) (status : ℕ) (h : Option History) (text : List ℕ) → IsDue (Some C.Check) bytes status h text ↔ ChecksTo bytes status h text
check_law bytes status h text = (λ due. check_to (Some C.Check) bytes status h text due refl, check_from bytes status h text)

-- ---- histories

-- work that has a history is a run of a program of the script
record IsRun (work : Work) (script : List ℕ) (h : History) : Type 0 where
  pub setup : Setup
  pub runs : setup_of work ≡ Some setup
  pub program : Program
  pub are : AreProgram script program
  pub is : IsHistoryIn program setup h

some_is : (g h : History) → Some g ≡ Some h → g ≡ h
some_is g h e = cc

result_run : (work : Work) (P : Program) (status : ℕ) (o : Option History) (text : List ℕ) (script : List ℕ) (h : History) → IsResult work P status o text → AreProgram script P → o ≡ Some h → IsRun work script h
result_run _ _ _ _ _ script h (counted P) are e = cc
result_run _ _ _ _ _ script h (ran setup telling P g text is told) are e =
    record { setup = setup; runs = refl; program = P; are = are; is = subst (IsHistoryIn P setup) (some_is g h e) is }
result_run _ _ _ _ _ script h (answered setup question P g text is told) are e =
    record { setup = setup; runs = refl; program = P; are = are; is = subst (IsHistoryIn P setup) (some_is g h e) is }

owed_run : (work : Work) (script : List ℕ) (status : ℕ) (o : Option History) (text : List ℕ) (h : History) → IsOwed work script status o text → o ≡ Some h → IsRun work script h
owed_run _ _ _ _ _ h (refused work script line fault) e = cc
owed_run _ _ _ _ _ h (worked work script P status o text are result) e = result_run work P status o text script h result are e
owed_run _ _ _ _ _ h (unanswered setup question script P are none_) e = cc

history_of_run : (c : Command) (bytes : List ℕ) (work : Work) (h : History) → work_of c ≡ Some work → IsRun work (script_of c bytes) h → IsHistoryOf c bytes h
history_of_run c bytes work h works run =
    record { work = work; setup = run.setup; does = works; runs = run.runs; program = run.program; are = run.are; is = run.is }

due_history : (asked : Option Command) (bytes : List ℕ) (status : ℕ) (o : Option History) (text : List ℕ) (h : History) → IsDue asked bytes status o text → o ≡ Some h → (c : Command) × (asked ≡ Some c) × IsHistoryOf c bytes h
due_history _ _ _ _ _ h usage e = cc
due_history _ _ _ _ _ h (replayed bytes status text r) e = cc
due_history _ _ _ _ _ h (owed c work bytes status o text works owes) e = (c, refl, history_of_run c bytes work h works (owed_run work (script_of c bytes) status o text h owes e))

-- a command that does something with a script alone wants no other part
pub has_parts : (c : Command) (work : Work) (bytes : List ℕ) → work_of c ≡ Some work → HasParts c bytes
has_parts (C.Run threads fuel) work bytes e = tt
has_parts (C.Trace threads fuel) work bytes e = tt
has_parts C.Check work bytes e = tt
has_parts C.Replay work bytes e = cc
has_parts (C.Gen n threads fuel) work bytes e = tt
has_parts (C.Which name ty threads fuel) work bytes e = tt
has_parts (C.Ambiguous threads fuel) work bytes e = tt

judged_line : (script history : List ℕ) (status : ℕ) (text : List ℕ) → IsJudged script history status text → status ≡ 3 → IsFaultLine script text
judged_line _ _ _ _ (unjudged script history line fault) e = fault
judged_line _ _ _ _ (judged script history P status text are told) e = absurd (told_other P history status text 1 told e (omega arith))

replayed_line : (bytes : List ℕ) (status : ℕ) (text : List ℕ) → IsReplayed bytes status text → status ≡ 3 → IsRefusalLine C.Replay bytes text
replayed_line _ _ _ (too_long bytes long) e = inr (refl, inl (long, refl))
replayed_line _ _ _ (no_history bytes short none_) e = inr (refl, inr (short, none_, refl))
replayed_line _ _ _ (parted bytes status text has j) e = inl (has, judged_line (script_of C.Replay bytes) (history_in bytes) status text j e)

module _ (asked : Option Command) (bytes written : List ℕ) (source_rose sink_rose : Type 0) where
  abbrev Answer : ℕ → Option History → Type 0
  Answer = IsAnswer asked bytes written source_rose sink_rose

  answer_history : (status : ℕ) (o : Option History) (h : History) → Answer status o → o ≡ Some h → (c : Command) × (asked ≡ Some c) × IsHistoryOf c bytes h
  answer_history _ _ h (whole status o due) e = due_history asked bytes status o written h due e
  answer_history _ _ h (not_read some is rose) e = cc
  answer_history _ _ h (not_written status o text count due is rose) e = due_history asked bytes status o text h due e
  answer_history _ _ h (no_memory few is) e = cc
  answer_history _ _ h (no_memory_written status o text count due is) e = due_history asked bytes status o text h due e

  pub history_law : (status : ℕ) (h : History) → Answer status (Some h) → (c : Command) × (asked ≡ Some c) × IsHistoryOf c bytes h
  history_law status h answer = answer_history status (Some h) h answer refl

  -- ---- the lines of statuses 2 and 3

  due_usage : (asked : Option Command) (bytes : List ℕ) (status : ℕ) (h : Option History) (text : List ℕ) → IsDue asked bytes status h text → status ≡ 2 → (asked ≡ None) × (text ≡ usage_line) × (h ≡ None)
  due_usage _ _ _ _ _ usage e = (refl, refl, refl)
  due_usage _ _ _ _ _ (replayed bytes status text r) e = absurd (replayed_other bytes status text r e)
  due_usage _ _ _ _ _ (owed c work bytes status h text works o) e = absurd (owed_other work (script_of c bytes) status h text o e)

  answer_usage : (status : ℕ) (h : Option History) → Answer status h → status ≡ 2 → (asked ≡ None) × (written ≡ usage_line) × (h ≡ None)
  answer_usage _ _ (whole status h due) e = due_usage asked bytes status h written due e
  answer_usage _ _ (not_read some is rose) e = absurd (omega (arith, e))
  answer_usage _ _ (not_written status h text count due is rose) e = absurd (omega (arith, e))
  answer_usage _ _ (no_memory few is) e = absurd (omega (arith, e))
  answer_usage _ _ (no_memory_written status h text count due is) e = absurd (omega (arith, e))

  owed_line : (work : Work) (script : List ℕ) (status : ℕ) (h : Option History) (text : List ℕ) → IsOwed work script status h text → status ≡ 3 → IsFaultLine script text × (h ≡ None)
  owed_line _ _ _ _ _ (refused work script line fault) e = (fault, refl)
  owed_line _ _ _ _ _ (worked work script P status h text are result) e = absurd (result_small work P status h text 1 result e)
  owed_line _ _ _ _ _ (unanswered setup question script P are none_) e = absurd (omega (arith, e))

  due_line : (asked : Option Command) (bytes : List ℕ) (status : ℕ) (h : Option History) (text : List ℕ) → IsDue asked bytes status h text → status ≡ 3 → (c : Command) × (asked ≡ Some c) × IsRefusalLine c bytes text × (h ≡ None)
  due_line _ _ _ _ _ usage e = absurd (omega (arith, e))
  due_line _ _ _ _ _ (replayed bytes status text r) e = (C.Replay, refl, replayed_line bytes status text r e, refl)
  due_line _ _ _ _ _ (owed c work bytes status h text works o) e = let l = owed_line work (script_of c bytes) status h text o e in (c, refl, inl (has_parts c work bytes works, l.0), l.1)

  answer_line : (status : ℕ) (h : Option History) → Answer status h → status ≡ 3 → (c : Command) × (asked ≡ Some c) × IsRefusalLine c bytes written × (h ≡ None)
  answer_line _ _ (whole status h due) e = due_line asked bytes status h written due e
  answer_line _ _ (not_read some is rose) e = absurd (omega (arith, e))
  answer_line _ _ (not_written status h text count due is rose) e = absurd (omega (arith, e))
  answer_line _ _ (no_memory few is) e = absurd (omega (arith, e))
  answer_line _ _ (no_memory_written status h text count due is) e = absurd (omega (arith, e))

  pub usage_line_law : (h : Option History) → Answer 2 h → (asked ≡ None) × (written ≡ usage_line) × (h ≡ None)
  usage_line_law h answer = answer_usage 2 h answer refl

  pub fault_line_law : (h : Option History) → Answer 3 h → (c : Command) × (asked ≡ Some c) × IsRefusalLine c bytes written × (h ≡ None)
  fault_line_law h answer = answer_line 3 h answer refl

  -- ---- nothing came in the way

  pub complete_law : (status : ℕ) (h : Option History) → Answer status h → (source_rose → ⊥) → (sink_rose → ⊥) → (status ≡ 6 → ⊥) → IsDue asked bytes status h written
  complete_law _ _ (whole status h due) s k m = due
  complete_law _ _ (not_read some is rose) s k m = absurd (s rose)
  complete_law _ _ (not_written status h text count due is rose) s k m = absurd (k rose)
  complete_law _ _ (no_memory few is) s k m = absurd (m refl)
  complete_law _ _ (no_memory_written status h text count due is) s k m = absurd (m refl)
