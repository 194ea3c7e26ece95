-- What work on a program owes, from what its parts answer.
use Rattle.std.proofs.Common.{◌≡◌, ℕ, List, sym, subst, Option, None, Some}
use Rattle.jl_calculus.specs.declared.history.History.{History}
use Rattle.jl_program.specs.declared.tree.Program.{Program}
use Rattle.jl_calculus.specs.Legal.{status_of}
use Rattle.jl_model.specs.declared.ty.Key.{Key}
use Rattle.jl_reflect.specs.Asked.{MeansKey, IsUnknown}
use Rattle.jl_queue.specs.declared.setup.Setup.{Setup}
use Rattle.jl_work.specs.declared.running.Due.{Due}
use Rattle.jl_work.specs.declared.work.Work.{Work}
use Rattle.jl_work.specs.declared.work.Work.TheVariants as W
use Rattle.jl_work.specs.declared.work.Question.{Question}
use Rattle.jl_work.specs.declared.work.Telling.{Telling}
use Rattle.jl_work.specs.Work.{whole_setup}
use Rattle.jl_work.specs.Told.{IsTold, TellsSpans}
use Rattle.jl_work.specs.Owed.{unknown_line, ok_line, AreProgram, IsFaultLine, IsHistoryIn, IsResult, counted, ran, answered, IsUnanswered, IsOwed, refused, worked, unanswered}

-- an answer with a line
pub refused_so : (d : Due) (work : Work) (script line : List ℕ) → IsFaultLine script line → (d.status ≡ 3) × (d.history ≡ None) × (d.text ≡ line) → IsOwed work script d.status d.history d.text
refused_so d work script line fault h =
    subst (λ (n : ℕ). IsOwed work script n d.history d.text) (sym h.0)
    (subst (λ (o : Option History). IsOwed work script 3 o d.text) (sym h.1)
    (subst (λ (t : List ℕ). IsOwed work script 3 None t) (sym h.2) (refused work script line fault)))

-- a setup with these numbers
pub setup_is : (s : Setup) (threads fuel : ℕ) → (s.threads ≡ threads) × (s.fuel ≡ fuel) → (s.keys ≡ 8192) × (s.rows ≡ 16384) → s ≡ whole_setup threads fuel
setup_is s threads fuel e f = λ i. record { threads = e.0 i; fuel = e.1 i; keys = f.0 i; rows = f.1 i }

-- what is due with a history
abbrev pub HasHistoryOf : Due → History → List ℕ → Type 0
HasHistoryOf d h text = (d.status ≡ status_of h.events) × (d.history ≡ Some h) × (d.text ≡ text)

due_so : (d : Due) (work : Work) (P : Program) (h : History) (text : List ℕ) → IsResult work P (status_of h.events) (Some h) text → HasHistoryOf d h text → IsResult work P d.status d.history d.text
due_so d work P h text r e =
    subst (λ (n : ℕ). IsResult work P n d.history d.text) (sym e.0)
    (subst (λ (o : Option History). IsResult work P (status_of h.events) o d.text) (sym e.1) (subst (λ (t : List ℕ). IsResult work P (status_of h.events) (Some h) t) (sym e.2) r))

-- what a run comes to
pub ran_so : (d : Due) (setup : Setup) (telling : Telling) (P : Program) (h : History) (text : List ℕ) → IsHistoryIn P setup h → IsTold telling P h.events text → HasHistoryOf d h text
    → IsResult (W.Run setup telling) P d.status d.history d.text
ran_so d setup telling P h text is told e = due_so d (W.Run setup telling) P h text (ran setup telling P h text is told) e

-- the same with the answer to a question
pub answered_so : (d : Due) (setup : Setup) (question : Question) (P : Program) (h : History) (text : List ℕ) → IsHistoryIn P setup h → TellsSpans P h.events question text → HasHistoryOf d h text
    → IsResult (W.Which setup question) P d.status d.history d.text
answered_so d setup question P h text is told e = due_so d (W.Which setup question) P h text (answered setup question P h text is told) e

-- what a program comes to, where its work is this
pub worked_as : (d : Due) (given work : Work) (bytes : List ℕ) (P Q : Program) → given ≡ work → Q ≡ P → IsResult work Q d.status d.history d.text → AreProgram bytes P → IsOwed given bytes d.status d.history d.text
worked_as d given work bytes P Q e f r are =
    subst (λ (x : Work). IsOwed x bytes d.status d.history d.text) (sym e)
    (worked work bytes P d.status d.history d.text are (subst (λ (x : Program). IsResult work x d.status d.history d.text) f r))

-- where a question means a key, by its two words
pub asked_so : (d : Due) (setup : Setup) (question : Question) (bytes : List ℕ) (P : Program) (key : Key) (name ty : List ℕ) → name ≡ question.name → ty ≡ question.ty → MeansKey P name ty key
    → ((q : Question) → MeansKey P q.name q.ty key → IsResult (W.Which setup q) P d.status d.history d.text) → AreProgram bytes P → IsOwed (W.Which setup question) bytes d.status d.history d.text
asked_so d setup question bytes P key name ty e f means r are =
    worked (W.Which setup question) bytes P d.status d.history d.text are
    (r question (subst (λ (n : List ℕ). MeansKey P n question.ty key) e (subst (λ (t : List ℕ). MeansKey P name t key) f means)))

-- and where it is not about the program
unanswered_so : (d : Due) (setup : Setup) (question : Question) (bytes : List ℕ) (P : Program) → AreProgram bytes P → IsUnanswered P question → (d.status ≡ 8) × (d.history ≡ None) × (d.text ≡ unknown_line)
    → IsOwed (W.Which setup question) bytes d.status d.history d.text
unanswered_so d setup question bytes P are none_ h =
    subst (λ (n : ℕ). IsOwed (W.Which setup question) bytes n d.history d.text) (sym h.0)
    (subst (λ (o : Option History). IsOwed (W.Which setup question) bytes 8 o d.text) (sym h.1)
    (subst (λ (t : List ℕ). IsOwed (W.Which setup question) bytes 8 None t) (sym h.2) (unanswered setup question bytes P are none_)))

pub stray_so : (d : Due) (setup : Setup) (question : Question) (bytes : List ℕ) (P : Program) (name ty : List ℕ) → name ≡ question.name → ty ≡ question.ty → IsUnknown P name ty
    → (d.status ≡ 8) × (d.history ≡ None) × (d.text ≡ unknown_line) → AreProgram bytes P → IsOwed (W.Which setup question) bytes d.status d.history d.text
stray_so d setup question bytes P name ty e f none_ h are =
    unanswered_so d setup question bytes P are (subst (λ (n : List ℕ). IsUnknown P n question.ty) e (subst (λ (t : List ℕ). IsUnknown P name t) f none_)) h

pub checked_so : (P : Program) (text : List ℕ) → text ≡ ok_line P → IsResult W.Check P 0 None text
checked_so P text e = subst (λ (t : List ℕ). IsResult W.Check P 0 None t) (sym e) (counted P)
