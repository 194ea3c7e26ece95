-- What `replay` owes for an input that is a program with a history.
use Rattle.std.proofs.Common.{◌≡◌, ℕ, List, Option, None, Some, refl, sym, ◌∙◌, subst, arith}
use Rattle.jl_calculus.specs.declared.history.History.{History}
use Rattle.jl_program.specs.declared.tree.Program.{Program}
use Rattle.jl_replay.specs.declared.verdict.Verdict.{Verdict}
use Rattle.jl_replay.specs.declared.verdict.Verdict.TheVariants as V
use Rattle.jl_replay.specs.Verdict.{IsVerdict, IsLegalText}
use Rattle.jl_command.specs.declared.commands.Command.{Command}
use Rattle.jl_command.specs.declared.commands.Command.TheVariants as C
use Rattle.jl_work.specs.declared.work.Work.{Work}
use Rattle.jl_work.specs.Owed.{AreProgram, IsOwed, refused, worked, unanswered}
use Rattle.jl_work.proofs.OneProgram.{same_program, fault_apart}
use Rattle.jl_cli.specs.Split.{history_in}
use Rattle.jl_cli.specs.Verdicts.{verdict_line, verdict_status}
use Rattle.jl_cli.specs.Work.{script_of, work_of}
use Rattle.jl_cli.specs.Due.{IsJudged, unjudged, judged, IsReplayed, too_long, no_history, parted, IsDue, usage, replayed, owed}
use Rattle.jl_cli.specs.Laws.{IsJudgedOver, IsToldIllegal, IsToldLegal}
use Rattle.jl_cli.proofs.LawLemmas.{result_small}
use Rattle.jl_cli.proofs.StatusLemmas.{there_is}

-- ---- one verdict

verdict_illegal : (P : Program) (history text : List ℕ) (v : Verdict) → IsVerdict P history v → verdict_status v ≡ 7 → text ≡ verdict_line v → IsToldIllegal P history text
verdict_illegal P history text (V.Legal n) is e told = absurd (omega (arith, e))
verdict_illegal P history text (V.BadText line) is e told =
    record { verdict = V.BadText line; is = is; told = told; illegal = is.illegal }
verdict_illegal P history text (V.Illegal event cause) is e told =
    record { verdict = V.Illegal event cause; is = is; told = told; illegal = is.illegal }

verdict_legal : (P : Program) (history text : List ℕ) (v : Verdict) → IsVerdict P history v → verdict_status v ≡ 0 → text ≡ verdict_line v → IsToldLegal P history text
verdict_legal P history text (V.Legal n) is e told = record { many = n; is = is; told = told }
verdict_legal P history text (V.BadText line) is e told = absurd (omega (arith, e))
verdict_legal P history text (V.Illegal event cause) is e told = absurd (omega (arith, e))

verdict_found : (P : Program) (history : List ℕ) (n : ℕ) (v : Verdict) → IsVerdict P history v → IsLegalText P history n → verdict_status v ≡ 0
verdict_found P history n (V.Legal m) is l = refl
verdict_found P history n (V.BadText line) is l = absurd (is.illegal n l)
verdict_found P history n (V.Illegal event cause) is l = absurd (is.illegal n l)

verdict_refuted : (P : Program) (history : List ℕ) (v : Verdict) → IsVerdict P history v → ((n : ℕ) → IsLegalText P history n → ⊥) → verdict_status v ≡ 7
verdict_refuted P history (V.Legal n) is no_ = absurd (no_ n is)
verdict_refuted P history (V.BadText line) is no_ = refl
verdict_refuted P history (V.Illegal event cause) is no_ = refl

-- ---- a judgement

judged_illegal : (script history : List ℕ) (status : ℕ) (text : List ℕ) → IsJudged script history status text → status ≡ 7 → (P : Program) × AreProgram script P × IsToldIllegal P history text
judged_illegal _ _ _ _ (unjudged script history line fault) e = absurd (omega (arith, e))
judged_illegal _ _ _ _ (judged script history P status text are told) e = (P, are, verdict_illegal P history text told.0 told.1 (sym told.2 ∙ e) told.3)

judged_legal : (script history : List ℕ) (status : ℕ) (text : List ℕ) → IsJudged script history status text → status ≡ 0 → (P : Program) × AreProgram script P × IsToldLegal P history text
judged_legal _ _ _ _ (unjudged script history line fault) e = absurd (omega (arith, e))
judged_legal _ _ _ _ (judged script history P status text are told) e = (P, are, verdict_legal P history text told.0 told.1 (sym told.2 ∙ e) told.3)

judged_found : (script history : List ℕ) (status : ℕ) (text : List ℕ) (Q : Program) (n : ℕ) → IsJudged script history status text → AreProgram script Q → IsLegalText Q history n → status ≡ 0
judged_found _ _ _ _ Q n (unjudged script history line fault) is l = absurd (fault_apart script line fault (Q, is))
judged_found _ _ _ _ Q n (judged script history P status text are told) is l =
    told.2 ∙ verdict_found Q history n told.0 (subst (λ (R : Program). IsVerdict R history told.0) (same_program script P Q are is) told.1) l

judged_refuted : (script history : List ℕ) (status : ℕ) (text : List ℕ) (Q : Program) → IsJudged script history status text → AreProgram script Q → ((n : ℕ) → IsLegalText Q history n → ⊥) → status ≡ 7
judged_refuted _ _ _ _ Q (unjudged script history line fault) is no_ = absurd (fault_apart script line fault (Q, is))
judged_refuted _ _ _ _ Q (judged script history P status text are told) is no_ =
    told.2 ∙ verdict_refuted Q history told.0 (subst (λ (R : Program). IsVerdict R history told.0) (same_program script P Q are is) told.1) no_

-- ---- what `replay` owes

-- it is judged, or there is no history
replayed_illegal : (bytes : List ℕ) (status : ℕ) (text : List ℕ) → IsReplayed bytes status text → status ≡ 7 → (P : Program) × IsJudgedOver bytes P × IsToldIllegal P (history_in bytes) text
replayed_illegal _ _ _ (too_long bytes long) e = absurd (omega (arith, e))
replayed_illegal _ _ _ (no_history bytes short none_) e = absurd (omega (arith, e))
replayed_illegal _ _ _ (parted bytes status text has j) e =
    let i = judged_illegal (script_of C.Replay bytes) (history_in bytes) status text j e in (i.0, record { has = has; are = i.1 }, i.2)

replayed_legal : (bytes : List ℕ) (status : ℕ) (text : List ℕ) → IsReplayed bytes status text → status ≡ 0 → (P : Program) × IsJudgedOver bytes P × IsToldLegal P (history_in bytes) text
replayed_legal _ _ _ (too_long bytes long) e = absurd (omega (arith, e))
replayed_legal _ _ _ (no_history bytes short none_) e = absurd (omega (arith, e))
replayed_legal _ _ _ (parted bytes status text has j) e =
    let i = judged_legal (script_of C.Replay bytes) (history_in bytes) status text j e in (i.0, record { has = has; are = i.1 }, i.2)

replayed_found : (bytes : List ℕ) (status : ℕ) (text : List ℕ) (P : Program) (n : ℕ) → IsReplayed bytes status text → IsJudgedOver bytes P → IsLegalText P (history_in bytes) n → status ≡ 0
replayed_found _ _ _ P n (too_long bytes long) over l = absurd (omega (arith, long, over.has.short))
replayed_found _ _ _ P n (no_history bytes short none_) over l = absurd (there_is bytes over.has none_)
replayed_found _ _ _ P n (parted bytes status text has j) over l = judged_found (script_of C.Replay bytes) (history_in bytes) status text P n j over.are l

replayed_refuted : (bytes : List ℕ) (status : ℕ) (text : List ℕ) (P : Program) → IsReplayed bytes status text → IsJudgedOver bytes P → ((n : ℕ) → IsLegalText P (history_in bytes) n → ⊥) → status ≡ 7
replayed_refuted _ _ _ P (too_long bytes long) over no_ = absurd (omega (arith, long, over.has.short))
replayed_refuted _ _ _ P (no_history bytes short none_) over no_ = absurd (there_is bytes over.has none_)
replayed_refuted _ _ _ P (parted bytes status text has j) over no_ = judged_refuted (script_of C.Replay bytes) (history_in bytes) status text P j over.are no_

-- what is due for `replay` is just that
due_replayed : (asked : Option Command) (bytes : List ℕ) (status : ℕ) (h : Option History) (text : List ℕ) → IsDue asked bytes status h text → asked ≡ Some C.Replay → IsReplayed bytes status text
due_replayed _ _ _ _ _ usage e = cc
due_replayed _ _ _ _ _ (replayed bytes status text r) e = r
due_replayed _ _ _ _ _ (owed c work bytes status h text works o) e =
    let is : c ≡ C.Replay = cc in
    let none_ : None ≡ Some work = subst (λ (x : Command). work_of x ≡ Some work) is works in
    cc

module _ (bytes : List ℕ) where
  pub illegal_law : (h : Option History) (text : List ℕ) → IsDue (Some C.Replay) bytes 7 h text → (P : Program) × IsJudgedOver bytes P × IsToldIllegal P (history_in bytes) text
  illegal_law h text due = replayed_illegal bytes 7 text (due_replayed (Some C.Replay) bytes 7 h text due refl) refl

  pub legal_law : (h : Option History) (text : List ℕ) → IsDue (Some C.Replay) bytes 0 h text → (P : Program) × IsJudgedOver bytes P × IsToldLegal P (history_in bytes) text
  legal_law h text due = replayed_legal bytes 0 text (due_replayed (Some C.Replay) bytes 0 h text due refl) refl

  pub found_law : (P : Program) (n : ℕ) → IsJudgedOver bytes P → IsLegalText P (history_in bytes) n → (status : ℕ) (h : Option History) (text : List ℕ) → IsDue (Some C.Replay) bytes status h text → status ≡ 0
  found_law P n over l status h text due = replayed_found bytes status text P n (due_replayed (Some C.Replay) bytes status h text due refl) over l

  pub refuted_law : (P : Program) → IsJudgedOver bytes P → ((n : ℕ) → IsLegalText P (history_in bytes) n → ⊥) → (status : ℕ) (h : Option History) (text : List ℕ) → IsDue (Some C.Replay) bytes status h text → status ≡ 7
  refuted_law P over no_ status h text due = replayed_refuted bytes status text P (due_replayed (Some C.Replay) bytes status h text due refl) over no_

-- ---- status 7 is due for `replay` alone

owed_alone : (work : Work) (script : List ℕ) (status : ℕ) (h : Option History) (text : List ℕ) → IsOwed work script status h text → status ≡ 7 → ⊥
owed_alone _ _ _ _ _ (refused work script line fault) e = absurd (omega (arith, e))
owed_alone _ _ _ _ _ (worked work script P status h text are result) e = result_small work P status h text 5 result e
owed_alone _ _ _ _ _ (unanswered setup question script P are none_) e = absurd (omega (arith, e))

due_alone : (asked : Option Command) (bytes : List ℕ) (status : ℕ) (h : Option History) (text : List ℕ) → IsDue asked bytes status h text → status ≡ 7 → (asked ≡ Some C.Replay) × (h ≡ None)
due_alone _ _ _ _ _ usage e = absurd (omega (arith, e))
due_alone _ _ _ _ _ (replayed bytes status text r) e = (refl, refl)
due_alone _ _ _ _ _ (owed c work bytes status h text works o) e = absurd (owed_alone work (script_of c bytes) status h text o e)

pub alone_law : (asked : Option Command) (bytes : List ℕ) (h : Option History) (text : List ℕ) → IsDue asked bytes 7 h text → (asked ≡ Some C.Replay) × (h ≡ None)
alone_law asked bytes h text due = due_alone asked bytes 7 h text due refl
