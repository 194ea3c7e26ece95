-- What `which` owes: the answer to its question, or the line of a question that is not about the program.
use Rattle.std.proofs.Common.{◌≡◌, ◌↔◌, ◌⊎◌, inl, inr, ℕ, List, Option, None, Some, refl, sym, subst, arith}
use Rattle.std.specs.Prelude.{IsSome}
use Rattle.jl_model.specs.declared.ty.Key.{Key}
use Rattle.jl_calculus.specs.declared.history.History.{History}
use Rattle.jl_program.specs.declared.tree.Program.{Program}
use Rattle.jl_reflect.specs.Asked.{MeansKey}
use Rattle.jl_queue.specs.declared.setup.Setup.{Setup}
use Rattle.jl_command.specs.declared.commands.Command.{Command}
use Rattle.jl_command.specs.declared.commands.Command.TheVariants as C
use Rattle.jl_work.specs.declared.work.Work.{Work}
use Rattle.jl_work.specs.declared.work.Work.TheVariants as W
use Rattle.jl_work.specs.declared.work.Question.{Question}
use Rattle.jl_work.specs.Work.{whole_setup}
use Rattle.jl_work.specs.Owed.{unknown_line, AreProgram, IsResult, counted, ran, answered, IsUnanswered, IsOwed, refused, worked, unanswered}
use Rattle.jl_work.proofs.OneProgram.{same_program, fault_apart}
use Rattle.jl_cli.specs.Split.{history_in}
use Rattle.jl_cli.specs.Work.{script_of, work_of}
use Rattle.jl_cli.specs.Due.{IsJudged, unjudged, judged, IsReplayed, too_long, no_history, parted, IsDue, usage, replayed, owed, IsAnswer, whole, not_read, not_written, no_memory, no_memory_written}
use Rattle.jl_cli.specs.Laws.{IsAnswerable, IsBeside, AsksOf}
use Rattle.jl_cli.proofs.LawLemmas.{result_small, told_status}
use Rattle.jl_cli.proofs.StatusLemmas.{nothing_there}

-- ---- the key of a run with a question

result_key : (work : Work) (P : Program) (status : ℕ) (h : Option History) (text : List ℕ) (setup : Setup) (question : Question) → IsResult work P status h text → work ≡ W.Which setup question
    → (key : Key) × MeansKey P question.name question.ty key
result_key _ _ _ _ _ setup question (counted P) e = cc
result_key _ _ _ _ _ setup question (ran s telling P h text is told) e = cc
result_key _ _ _ _ _ setup question (answered s q P h text is told) e =
    let same : q ≡ question = cc in
    (told.key, subst (λ (x : Question). MeansKey P x.name x.ty told.key) same told.means)

result_there : (work : Work) (P : Program) (status : ℕ) (h : Option History) (text : List ℕ) (setup : Setup) (question : Question) → IsResult work P status h text → work ≡ W.Which setup question → IsSome h
result_there _ _ _ _ _ setup question (counted P) e = cc
result_there _ _ _ _ _ setup question (ran s telling P h text is told) e = cc
result_there _ _ _ _ _ setup question (answered s q P h text is told) e = refl

-- a program that has a key for a question has no other reading
apart : (script : List ℕ) (P Q : Program) (question : Question) (key : Key) → AreProgram script P → AreProgram script Q → MeansKey P question.name question.ty key → IsUnanswered Q question → ⊥
apart script P Q question key p q means none_ = none_ key (subst (λ (x : Program). MeansKey x question.name question.ty key) (same_program script P Q p q) means)

owed_answered : (work : Work) (script : List ℕ) (status : ℕ) (h : Option History) (text : List ℕ) (setup : Setup) (question : Question) → IsOwed work script status h text → work ≡ W.Which setup question
    → IsSome h ↔ IsAnswerable script question
owed_answered _ _ _ _ _ setup question (refused work script line fault) e = (λ s. absurd (nothing_there s), λ a. absurd (fault_apart script line fault (a.program, a.are)))
owed_answered _ _ _ _ _ setup question (worked work script P status h text are result) e =
    let k = result_key work P status h text setup question result e in (
      λ s. record { program = P; are = are; key = k.0; means = k.1 },
      λ a. result_there work P status h text setup question result e,
    )
owed_answered _ _ _ _ _ setup question (unanswered s q script P are none_) e =
    let same : q ≡ question = cc in (
      λ s. absurd (nothing_there s),
      λ a. absurd (apart script a.program P question a.key a.are are a.means (subst (IsUnanswered P) same none_)),
    )

owed_beside : (work : Work) (script : List ℕ) (status : ℕ) (h : Option History) (text : List ℕ) (setup : Setup) (question : Question) → IsOwed work script status h text → work ≡ W.Which setup question
    → (status ≡ 8) ↔ IsBeside script question
owed_beside _ _ _ _ _ setup question (refused work script line fault) e = (λ z. absurd (omega (arith, z)), λ b. absurd (fault_apart script line fault (b.program, b.are)))
owed_beside _ _ _ _ _ setup question (worked work script P status h text are result) e =
    let k = result_key work P status h text setup question result e in (
      λ z. absurd (result_small work P status h text 6 result z),
      λ b. absurd (apart script P b.program question k.0 are b.are k.1 b.none_means),
    )
owed_beside _ _ _ _ _ setup question (unanswered s q script P are none_) e =
    let same : q ≡ question = cc in (
      λ z. record { program = P; are = are; none_means = subst (IsUnanswered P) same none_ },
      λ b. refl,
    )

-- ---- what is due for the command

module _ (question : Question) where
  asks_work : (c : Command) → AsksOf c question → (setup : Setup) × (work_of c ≡ Some (W.Which setup question))
  asks_work c (threads, fuel, is) = (whole_setup threads fuel, subst (λ (x : Command). work_of x ≡ Some (W.Which (whole_setup threads fuel) question)) (sym is) refl)

  abbrev IsFor : Command → List ℕ → ℕ → Option History → Type 0
  IsFor c bytes status h = (IsSome h ↔ IsAnswerable (script_of c bytes) question) × ((status ≡ 8) ↔ IsBeside (script_of c bytes) question)

  due_for : (asked : Option Command) (bytes : List ℕ) (status : ℕ) (h : Option History) (text : List ℕ) (c : Command) (setup : Setup) → work_of c ≡ Some (W.Which setup question) → IsDue asked bytes status h text
      → asked ≡ Some c → IsFor c bytes status h
  due_for _ _ _ _ _ c setup works usage e = cc
  due_for _ _ _ _ _ c setup works (replayed bytes status text r) e =
      let is : C.Replay ≡ c = cc in
      let none_ : None ≡ Some (W.Which setup question) = subst (λ (x : Command). work_of x ≡ Some (W.Which setup question)) (sym is) works in
      cc
  due_for _ _ _ _ _ c setup works (owed d work bytes status h text given o) e =
      let is : d ≡ c = cc in
      let same : work_of c ≡ Some work = subst (λ (x : Command). work_of x ≡ Some work) is given in
      let back : work ≡ W.Which setup question = cc in
      subst (λ (x : Command). IsFor x bytes status h) is (owed_answered work (script_of d bytes) status h text setup question o back, owed_beside work (script_of d bytes) status h text setup question o back)

pub answered_law : (c : Command) (question : Question) (bytes : List ℕ) (status : ℕ) (h : Option History) (text : List ℕ) → AsksOf c question → IsDue (Some c) bytes status h text
    → IsSome h ↔ IsAnswerable (script_of c bytes) question
answered_law c question bytes status h text asks due = let w = asks_work question c asks in (due_for question (Some c) bytes status h text c w.0 w.1 due refl).0

pub beside_law : (c : Command) (question : Question) (bytes : List ℕ) (status : ℕ) (h : Option History) (text : List ℕ) → AsksOf c question → IsDue (Some c) bytes status h text
    → (status ≡ 8) ↔ IsBeside (script_of c bytes) question
beside_law c question bytes status h text asks due = let w = asks_work question c asks in (due_for question (Some c) bytes status h text c w.0 w.1 due refl).1

-- ---- status 8 is due for a question alone

-- work that asks a question which is not about its script, with the line that tells so
record IsStray (work : Work) (script text : List ℕ) (h : Option History) : Type 0 where
  pub setup : Setup
  pub question : Question
  pub is : work ≡ W.Which setup question
  pub beside : IsBeside script question
  pub line : text ≡ unknown_line
  pub none_there : h ≡ None

owed_stray : (work : Work) (script : List ℕ) (status : ℕ) (h : Option History) (text : List ℕ) → IsOwed work script status h text → status ≡ 8 → IsStray work script text h
owed_stray _ _ _ _ _ (refused work script line fault) e = absurd (omega (arith, e))
owed_stray _ _ _ _ _ (worked work script P status h text are result) e = absurd (result_small work P status h text 6 result e)
owed_stray _ _ _ _ _ (unanswered setup question script P are none_) e =
    record { setup = setup; question = question; is = refl; beside = record { program = P; are = are; none_means = none_ }; line = refl; none_there = refl }

-- a verdict has another status
judged_eight : (script history : List ℕ) (status : ℕ) (text : List ℕ) → IsJudged script history status text → status ≡ 8 → ⊥
judged_eight _ _ _ _ (unjudged script history line fault) e = absurd (omega (arith, e))
judged_eight _ _ _ _ (judged script history P status text are told) e = other status (told_status P history status text told) e
  where
    other : (status : ℕ) → (status ≡ 0) ⊎ (status ≡ 7) → status ≡ 8 → ⊥
    other status (inl z) e = absurd (omega (arith, z, e))
    other status (inr z) e = absurd (omega (arith, z, e))

replayed_eight : (bytes : List ℕ) (status : ℕ) (text : List ℕ) → IsReplayed bytes status text → status ≡ 8 → ⊥
replayed_eight _ _ _ (too_long bytes long) e = absurd (omega (arith, e))
replayed_eight _ _ _ (no_history bytes short none_) e = absurd (omega (arith, e))
replayed_eight _ _ _ (parted bytes status text has j) e = judged_eight (script_of C.Replay bytes) (history_in bytes) status text j e

-- only one command asks
asks_of : (c : Command) (setup : Setup) (question : Question) → work_of c ≡ Some (W.Which setup question) → AsksOf c question
asks_of (C.Run threads fuel) setup question e = cc
asks_of (C.Trace threads fuel) setup question e = cc
asks_of C.Check setup question e = cc
asks_of C.Replay setup question e = cc
asks_of (C.Gen n threads fuel) setup question e = cc
asks_of (C.Which name ty threads fuel) setup question e =
    let same : record { name = name; ty = ty } ≡ question = cc in
    (threads, fuel, subst (λ (q : Question). C.Which name ty threads fuel ≡ C.Which q.name q.ty threads fuel) same refl)
asks_of (C.Ambiguous threads fuel) setup question e = cc

-- a question that is not about its script was asked, and this is the line
abbrev pub HasStray : Option Command → List ℕ → List ℕ → Option History → Type 0
HasStray asked bytes text h = (c : Command) × (question : Question) × (asked ≡ Some c) × AsksOf c question × IsBeside (script_of c bytes) question × (text ≡ unknown_line) × (h ≡ None)

due_stray : (asked : Option Command) (bytes : List ℕ) (status : ℕ) (h : Option History) (text : List ℕ) → IsDue asked bytes status h text → status ≡ 8 → HasStray asked bytes text h
due_stray _ _ _ _ _ usage e = absurd (omega (arith, e))
due_stray _ _ _ _ _ (replayed bytes status text r) e = absurd (replayed_eight bytes status text r e)
due_stray _ _ _ _ _ (owed c work bytes status h text works o) e =
    let s = owed_stray work (script_of c bytes) status h text o e in
    let asks : work_of c ≡ Some (W.Which s.setup s.question) = subst (λ (w : Work). work_of c ≡ Some w) s.is works in
    (c, s.question, refl, asks_of c s.setup s.question asks, s.beside, s.line, s.none_there)

module _ (asked : Option Command) (bytes written : List ℕ) (source_rose sink_rose : Type 0) where
  answer_stray : (status : ℕ) (h : Option History) → IsAnswer asked bytes written source_rose sink_rose status h → status ≡ 8 → HasStray asked bytes written h
  answer_stray _ _ (whole status h due) e = due_stray asked bytes status h written due e
  answer_stray _ _ (not_read some is rose) e = absurd (omega (arith, e))
  answer_stray _ _ (not_written status h text count due is rose) e = absurd (omega (arith, e))
  answer_stray _ _ (no_memory few is) e = absurd (omega (arith, e))
  answer_stray _ _ (no_memory_written status h text count due is) e = absurd (omega (arith, e))

  pub unknown_line_law : (h : Option History) → IsAnswer asked bytes written source_rose sink_rose 8 h → HasStray asked bytes written h
  unknown_line_law h answer = answer_stray 8 h answer refl
