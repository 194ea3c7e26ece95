-- When a status is due.
use Rattle.std.proofs.Common.{◌≡◌, ◌↔◌, ℕ, List, Option, None, Some, refl, subst, arith}
use Rattle.std.specs.Prelude.{IsSome}
use Rattle.jl_calculus.specs.declared.history.History.{History}
use Rattle.jl_calculus.specs.Legal.{status_of}
use Rattle.jl_program.specs.declared.tree.Program.{Program}
use Rattle.jl_queue.specs.declared.setup.Setup.{Setup}
use Rattle.jl_command.specs.declared.commands.Command.{Command}
use Rattle.jl_command.specs.declared.commands.Command.TheVariants as C
use Rattle.jl_work.specs.declared.work.Work.{Work}
use Rattle.jl_work.specs.declared.work.Work.TheVariants as W
use Rattle.jl_work.specs.declared.work.Telling.{Telling}
use Rattle.jl_work.specs.Owed.{IsProgram, IsResult, counted, ran, answered, IsOwed, refused, worked, unanswered}
use Rattle.jl_work.proofs.OneProgram.{fault_apart}
use Rattle.jl_cli.specs.Split.{separator_at, history_in}
use Rattle.jl_cli.specs.Work.{script_of, work_of}
use Rattle.jl_cli.specs.Due.{IsJudged, unjudged, judged, HasHistory, IsReplayed, too_long, no_history, parted, IsDue, usage, replayed, owed}
use Rattle.jl_cli.specs.Laws.{HasProgram}
use Rattle.jl_cli.proofs.LawLemmas.{result_small, told_other, has_parts}

-- ---- status 3

owed_none : (work : Work) (script : List ℕ) (status : ℕ) (h : Option History) (text : List ℕ) → IsOwed work script status h text → (status ≡ 3) ↔ (IsProgram script → ⊥)
owed_none _ _ _ _ _ (refused work script line fault) = (λ z p. fault_apart script line fault p, λ no_. refl)
owed_none _ _ _ _ _ (worked work script P status h text are result) = (λ z. absurd (result_small work P status h text 1 result z), λ no_. absurd (no_ (P, are)))
owed_none _ _ _ _ _ (unanswered setup question script P are none_) = (λ z. absurd (omega (arith, z)), λ no_. absurd (no_ (P, are)))

judged_none : (Has : Type 0) (script history : List ℕ) (status : ℕ) (text : List ℕ) → Has → IsJudged script history status text → (status ≡ 3) ↔ (Has × IsProgram script → ⊥)
judged_none Has _ _ _ _ has (unjudged script history line fault) = (λ z p. fault_apart script line fault p.1, λ no_. refl)
judged_none Has _ _ _ _ has (judged script history P status text are told) =
    (λ z. absurd (told_other P history status text 1 told z (omega arith)), λ no_. absurd (no_ (has, (P, are))))

-- bytes that have a history have a line that begins it
pub there_is : (bytes : List ℕ) → HasHistory bytes → separator_at bytes ≡ None → ⊥
there_is bytes has e = let there : IsSome {T = ℕ} None = subst (λ (o : Option ℕ). IsSome o) e has.there in cc

replayed_none : (bytes : List ℕ) (status : ℕ) (text : List ℕ) → IsReplayed bytes status text → (status ≡ 3) ↔ (HasProgram C.Replay bytes → ⊥)
replayed_none _ _ _ (too_long bytes long) = (λ z p. absurd (omega (arith, long, p.0.short)), λ no_. refl)
replayed_none _ _ _ (no_history bytes short e) = (λ z p. there_is bytes p.0 e, λ no_. refl)
replayed_none _ _ _ (parted bytes status text has j) = judged_none (HasHistory bytes) (script_of C.Replay bytes) (history_in bytes) status text has j

with_parts : (c : Command) (work : Work) (bytes : List ℕ) (status : ℕ) → work_of c ≡ Some work → (status ≡ 3) ↔ (IsProgram (script_of c bytes) → ⊥) → (status ≡ 3) ↔ (HasProgram c bytes → ⊥)
with_parts c work bytes status works both = (λ z p. both.0 z p.1, λ no_. both.1 (λ p. no_ (has_parts c work bytes works, p)))

due_none : (asked : Option Command) (bytes : List ℕ) (status : ℕ) (h : Option History) (text : List ℕ) (c : Command) → IsDue asked bytes status h text → asked ≡ Some c → (status ≡ 3) ↔ (HasProgram c bytes → ⊥)
due_none _ _ _ _ _ c usage e = cc
due_none _ _ _ _ _ c (replayed bytes status text r) e =
    let is : C.Replay ≡ c = cc in
    subst (λ (x : Command). (status ≡ 3) ↔ (HasProgram x bytes → ⊥)) is (replayed_none bytes status text r)
due_none _ _ _ _ _ c (owed d work bytes status h text works o) e =
    let is : d ≡ c = cc in
    subst (λ (x : Command). (status ≡ 3) ↔ (HasProgram x bytes → ⊥)) is (with_parts d work bytes status works (owed_none work (script_of d bytes) status h text o))

pub none_law : (c : Command) (bytes : List ℕ) (status : ℕ) (h : Option History) (text : List ℕ) → IsDue (Some c) bytes status h text → (status ≡ 3) ↔ (HasProgram c bytes → ⊥)
none_law c bytes status h text due = due_none (Some c) bytes status h text c due refl

-- ---- status 0 of a check

result_zero : (work : Work) (P : Program) (status : ℕ) (h : Option History) (text : List ℕ) → IsResult work P status h text → work ≡ W.Check → status ≡ 0
result_zero _ _ _ _ _ (counted P) e = refl
result_zero _ _ _ _ _ (ran setup telling P h text is told) e = cc
result_zero _ _ _ _ _ (answered setup question P h text is told) e = cc

owed_checked : (work : Work) (script : List ℕ) (status : ℕ) (h : Option History) (text : List ℕ) → IsOwed work script status h text → work ≡ W.Check → (status ≡ 0) ↔ IsProgram script
owed_checked _ _ _ _ _ (refused work script line fault) e = (λ z. absurd (omega (arith, z)), λ p. absurd (fault_apart script line fault p))
owed_checked _ _ _ _ _ (worked work script P status h text are result) e = (λ z. (P, are), λ p. result_zero work P status h text result e)
owed_checked _ _ _ _ _ (unanswered setup question script P are none_) e = cc

due_checked : (asked : Option Command) (bytes : List ℕ) (status : ℕ) (h : Option History) (text : List ℕ) → IsDue asked bytes status h text → asked ≡ Some C.Check → (status ≡ 0) ↔ IsProgram bytes
due_checked _ _ _ _ _ usage e = cc
due_checked _ _ _ _ _ (replayed bytes status text r) e = cc
due_checked _ _ _ _ _ (owed c work bytes status h text works o) e =
    let is : c ≡ C.Check = cc in
    let same : Some W.Check ≡ Some work = subst (λ (x : Command). work_of x ≡ Some work) is works in
    let back : work ≡ W.Check = cc in
    owed_checked work bytes status h text (subst (λ (x : Command). IsOwed work (script_of x bytes) status h text) is o) back

pub checked_law : (bytes : List ℕ) (status : ℕ) (h : Option History) (text : List ℕ) → IsDue (Some C.Check) bytes status h text → (status ≡ 0) ↔ IsProgram bytes
checked_law bytes status h text due = due_checked (Some C.Check) bytes status h text due refl

-- ---- the history of a run, and its status

result_some : (work : Work) (P : Program) (status : ℕ) (h : Option History) (text : List ℕ) (setup : Setup) (telling : Telling) → IsResult work P status h text → work ≡ W.Run setup telling → IsSome h
result_some _ _ _ _ _ setup telling (counted P) e = cc
result_some _ _ _ _ _ setup telling (ran s t P h text is told) e = refl
result_some _ _ _ _ _ setup telling (answered s question P h text is told) e = cc

pub nothing_there : IsSome {T = History} None → ⊥
nothing_there e = cc

owed_some : (work : Work) (script : List ℕ) (status : ℕ) (h : Option History) (text : List ℕ) (setup : Setup) (telling : Telling) → IsOwed work script status h text → work ≡ W.Run setup telling → IsSome h ↔ IsProgram script
owed_some _ _ _ _ _ setup telling (refused work script line fault) e = (λ s. absurd (nothing_there s), λ p. absurd (fault_apart script line fault p))
owed_some _ _ _ _ _ setup telling (worked work script P status h text are result) e = (λ s. (P, are), λ p. result_some work P status h text setup telling result e)
owed_some _ _ _ _ _ setup telling (unanswered s question script P are none_) e = cc

due_some : (asked : Option Command) (bytes : List ℕ) (status : ℕ) (h : Option History) (text : List ℕ) (c : Command) (setup : Setup) (telling : Telling) → work_of c ≡ Some (W.Run setup telling) → IsDue asked bytes status h text
    → asked ≡ Some c → IsSome h ↔ IsProgram (script_of c bytes)
due_some _ _ _ _ _ c setup telling works usage e = cc
due_some _ _ _ _ _ c setup telling works (replayed bytes status text r) e =
    let is : c ≡ C.Replay = cc in
    let none_ : None ≡ Some (W.Run setup telling) = subst (λ (x : Command). work_of x ≡ Some (W.Run setup telling)) is works in
    cc
due_some _ _ _ _ _ c setup telling works (owed d work bytes status h text given o) e =
    let is : d ≡ c = cc in
    let same : work_of c ≡ Some work = subst (λ (x : Command). work_of x ≡ Some work) is given in
    let back : work ≡ W.Run setup telling = cc in
    subst (λ (x : Command). IsSome h ↔ IsProgram (script_of x bytes)) is (owed_some work (script_of d bytes) status h text setup telling o back)

pub run_history_law : (c : Command) (setup : Setup) (telling : Telling) (bytes : List ℕ) (status : ℕ) (h : Option History) (text : List ℕ) → work_of c ≡ Some (W.Run setup telling) → IsDue (Some c) bytes status h text
    → IsSome h ↔ IsProgram (script_of c bytes)
run_history_law c setup telling bytes status h text works due = due_some (Some c) bytes status h text c setup telling works due refl

result_outcome : (work : Work) (P : Program) (status : ℕ) (o : Option History) (text : List ℕ) (h : History) → IsResult work P status o text → o ≡ Some h → status ≡ status_of h.events
result_outcome _ _ _ _ _ h (counted P) e = cc
result_outcome _ _ _ _ _ h (ran setup telling P g text is told) e = let same : g ≡ h = cc in subst (λ (x : History). status_of g.events ≡ status_of x.events) same refl
result_outcome _ _ _ _ _ h (answered setup question P g text is told) e = let same : g ≡ h = cc in subst (λ (x : History). status_of g.events ≡ status_of x.events) same refl

owed_outcome : (work : Work) (script : List ℕ) (status : ℕ) (o : Option History) (text : List ℕ) (h : History) → IsOwed work script status o text → o ≡ Some h → status ≡ status_of h.events
owed_outcome _ _ _ _ _ h (refused work script line fault) e = cc
owed_outcome _ _ _ _ _ h (worked work script P status o text are result) e = result_outcome work P status o text h result e
owed_outcome _ _ _ _ _ h (unanswered setup question script P are none_) e = cc

due_outcome : (asked : Option Command) (bytes : List ℕ) (status : ℕ) (o : Option History) (text : List ℕ) (h : History) → IsDue asked bytes status o text → o ≡ Some h → status ≡ status_of h.events
due_outcome _ _ _ _ _ h usage e = cc
due_outcome _ _ _ _ _ h (replayed bytes status text r) e = cc
due_outcome _ _ _ _ _ h (owed c work bytes status o text works owes) e = owed_outcome work (script_of c bytes) status o text h owes e

pub outcome_law : (c : Command) (bytes : List ℕ) (status : ℕ) (h : History) (text : List ℕ) → IsDue (Some c) bytes status (Some h) text → status ≡ status_of h.events
outcome_law c bytes status h text due = due_outcome (Some c) bytes status (Some h) text h due refl
