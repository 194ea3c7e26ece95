-- What a call did, from what its parts answer.
use Rattle.std.proofs.Common.{◌≡◌, ℕ, suc, ◌<◌, ◌≤◌, List, [], take, drop, length, refl, sym, ap, ◌∙◌, subst, Option, None, Some, arith, codes, Result, IfOk, Ok, Err}
use Rattle.std.specs.Prelude.{IsSome}
use Rattle.std.specs.declared.alloc.AllocError.{AllocError}
use Rattle.jl_calculus.specs.declared.history.History.{History}
use Rattle.jl_command.specs.declared.commands.Command.{Command}
use Rattle.jl_command.specs.declared.commands.Command.TheVariants as C
use Rattle.jl_work.specs.declared.running.Due.{Due}
use Rattle.jl_work.specs.declared.work.Work.{Work}
use Rattle.jl_work.specs.declared.work.Work.TheVariants as W
use Rattle.jl_io.specs.Moved.{Gives, NothingLeft}
use Rattle.jl_io.proofs.MovedLemmas.{Gives-none, Takes-none}
use Rattle.jl_work.specs.Split.{part_before, part_from}
use Rattle.jl_work.specs.Owed.{IsFaultLine, IsOwed, refused}
use Rattle.jl_work.proofs.ReadingLemmas.{too_long_fault}
use Rattle.jl_cli.specs.Split.{separator_at, script_in, history_in}
use Rattle.jl_cli.specs.Work.{most_taken, most_read, script_of, work_of}
use Rattle.jl_cli.specs.Due.{usage_line, no_history_line, IsJudged, unjudged, IsReplayed, too_long, no_history, parted, IsDue, usage, replayed, owed, whole, not_read, not_written, no_memory, no_memory_written, HasRun}
use Rattle.jl_cli.specs.Delivered.{IsDelivered, all, failed, no_memory as no_memory_left}

-- what was due was delivered
module _ (asked : Option Command) (left left' held held' : Option (List ℕ)) (source_rose sink_rose : Type 0) (bytes : List ℕ) (read : Gives left bytes left') (limited : length bytes ≤ most_read asked) where
  pub delivered : (st : ℕ) (h : Option History) (text : List ℕ) (status : ℕ) (history : Option History)
      → (length bytes < most_read asked → NothingLeft left') → IsDue asked bytes st h text → IsDelivered held held' sink_rose st h text status history
      → HasRun asked left left' held held' source_rose sink_rose status history
  delivered st h text _ _ ends due (all takes) = record { bytes = bytes; written = text; read = read; wrote = takes; limited = limited; all_read = λ a b. ends; answer = whole st h due }
  delivered st h text _ _ ends due (failed count takes rose) = record { bytes = bytes; written = take count text; read = read; wrote = takes; limited = limited; all_read = λ a b. ends; answer = not_written st h text count due refl rose }
  delivered st h text _ _ ends due (no_memory_left count takes) = record { bytes = bytes; written = take count text; read = read; wrote = takes; limited = limited; all_read = λ a b. ends; answer = no_memory_written st h text count due refl }

  -- the source failed, or memory was refused before anything was due
  pub unread : 0 < most_read asked → source_rose → held' ≡ held → HasRun asked left left' held held' source_rose sink_rose 4 None
  unread some rose e =
      subst (λ (o : Option (List ℕ)). HasRun asked left left' held o source_rose sink_rose 4 None) (sym e)
      (record { bytes = bytes; written = []; read = read; wrote = Takes-none held; limited = limited; all_read = λ four six lt. absurd (four refl); answer = not_read some refl rose })

  pub refused_memory : length bytes ≤ most_taken asked → held' ≡ held → HasRun asked left left' held held' source_rose sink_rose 6 None
  refused_memory few e =
      subst (λ (o : Option (List ℕ)). HasRun asked left left' held o source_rose sink_rose 6 None) (sym e)
      (record { bytes = bytes; written = []; read = read; wrote = Takes-none held; limited = limited; all_read = λ four six lt. absurd (six refl refl refl); answer = no_memory few refl })

-- a command reads no more than one byte past what it takes
pub most_small : (c : Command) → most_read (Some c) ≤ suc (most_taken (Some c))
most_small (C.Run threads fuel) = omega arith
most_small (C.Trace threads fuel) = omega arith
most_small C.Check = omega arith
most_small C.Replay = omega arith
most_small (C.Gen n threads fuel) = omega arith
most_small (C.Which name ty threads fuel) = omega arith
most_small (C.Ambiguous threads fuel) = omega arith

-- a call that did the same for other words, or ended with the same status and history
pub run_along : (asked asked' : Option Command) (left left' held held' : Option (List ℕ)) (source_rose sink_rose : Type 0) (status : ℕ) (history : Option History) → asked' ≡ asked
    → HasRun asked left left' held held' source_rose sink_rose status history → HasRun asked' left left' held held' source_rose sink_rose status history
run_along asked asked' left left' held held' source_rose sink_rose status history e run =
    subst (λ (a : Option Command). HasRun a left left' held held' source_rose sink_rose status history) (sym e) run

pub ended_along : (asked : Option Command) (left left' held held' : Option (List ℕ)) (source_rose sink_rose : Type 0) (st status : ℕ) (history : Option History) → (status ≡ st) × (history ≡ None)
    → HasRun asked left left' held held' source_rose sink_rose st None → HasRun asked left left' held held' source_rose sink_rose status history
ended_along asked left left' held held' source_rose sink_rose st status history e run =
    subst (λ (n : ℕ). HasRun asked left left' held held' source_rose sink_rose n history) (sym e.0)
    (subst (λ (h : Option History). HasRun asked left left' held held' source_rose sink_rose st h) (sym e.1) run)

-- the words are no command, and the usage line was delivered
pub used : (left held held' : Option (List ℕ)) (source_rose sink_rose : Type 0) (text : List ℕ) (status : ℕ) (history : Option History)
    → text ≡ usage_line → IsDelivered held held' sink_rose 2 None text status history → HasRun None left left held held' source_rose sink_rose status history
used left held held' source_rose sink_rose text status history e d =
    delivered None left left held held' source_rose sink_rose [] (Gives-none left) (omega arith) 2 None text status history (λ lt. absurd (omega (arith, lt)))
    (subst (λ (line : List ℕ). IsDue None [] 2 None line) (sym e) usage) d

-- the line that is due for too many bytes, which only a command that reads has
pub too_long_due : (c : Command) (bytes text : List ℕ) → most_taken (Some c) < length bytes → length bytes ≤ most_read (Some c) → text ≡ codes "ERROR: SourceTooLong\n" → IsDue (Some c) bytes 3 None text
too_long_due c bytes text long within e = subst (λ (line : List ℕ). IsDue (Some c) bytes 3 None line) (sym e) (line_due c long within)
  where
    source : (work : Work) → 1048576 < length bytes → IsOwed work bytes 3 None (codes "ERROR: SourceTooLong\n")
    source work long = refused work bytes _ (too_long_fault bytes long)

    line_due : (c : Command) → most_taken (Some c) < length bytes → length bytes ≤ most_read (Some c) → IsDue (Some c) bytes 3 None (codes "ERROR: SourceTooLong\n")
    line_due (C.Run threads fuel) long within = owed (C.Run threads fuel) _ bytes 3 None _ refl (source _ long)
    line_due (C.Trace threads fuel) long within = owed (C.Trace threads fuel) _ bytes 3 None _ refl (source _ long)
    line_due C.Check long within = owed C.Check W.Check bytes 3 None _ refl (source W.Check long)
    line_due C.Replay long within = replayed bytes 3 _ (too_long bytes long)
    line_due (C.Gen n threads fuel) long within = absurd (omega (arith, long, within))
    line_due (C.Which name ty threads fuel) long within = owed (C.Which name ty threads fuel) _ bytes 3 None _ refl (source _ long)
    line_due (C.Ambiguous threads fuel) long within = owed (C.Ambiguous threads fuel) _ bytes 3 None _ refl (source _ long)

-- an answer of `replay` with a line
pub unjudged_so : (d : Due) (script history line : List ℕ) → IsFaultLine script line → (d.status ≡ 3) × (d.history ≡ None) × (d.text ≡ line) → IsJudged script history d.status d.text × (d.history ≡ None)
unjudged_so d script history line fault h =
    (subst (λ (n : ℕ). IsJudged script history n d.text) (sym h.0) (subst (λ (t : List ℕ). IsJudged script history 3 t) (sym h.2) (unjudged script history line fault)), h.1)

pub no_history_so : (d : Due) (bytes line : List ℕ) → length bytes ≤ 67108864 → separator_at bytes ≡ None → line ≡ no_history_line → (d.status ≡ 3) × (d.history ≡ None) × (d.text ≡ line) → IsReplayed bytes d.status d.text × (d.history ≡ None)
no_history_so d bytes line short none_ e h =
    (subst (λ (n : ℕ). IsReplayed bytes n d.text) (sym h.0) (subst (λ (t : List ℕ). IsReplayed bytes 3 t) (sym (h.2 ∙ e)) (no_history bytes short none_)), h.1)

-- where the history begins
pub parted_so : (r : Result Due AllocError) (bytes script history : List ℕ) (place : ℕ) → length bytes ≤ 67108864 → separator_at bytes ≡ Some place → script ≡ take place bytes → history ≡ drop place bytes
    → IfOk r (λ d. IsJudged script history d.status d.text × (d.history ≡ None)) → IfOk r (λ d. IsReplayed bytes d.status d.text × (d.history ≡ None))
parted_so (Err e) bytes script history place short at before after j = j
parted_so (Ok d) bytes script history place short at before after j =
    let there : IsSome (separator_at bytes) = subst (λ (o : Option ℕ). IsSome o) (sym at) refl in
    let front : script ≡ script_in bytes = before ∙ ap (λ (o : Option ℕ). part_before o bytes) (sym at) in
    let rest : history ≡ history_in bytes = after ∙ ap (λ (o : Option ℕ). part_from o bytes) (sym at) in (
      parted bytes d.status d.text (record { short = short; there = there })
          (subst (λ (h : List ℕ). IsJudged (script_in bytes) h d.status d.text) rest (subst (λ (s : List ℕ). IsJudged s history d.status d.text) front j.0)),
      j.1,
    )

pub all_replayed : (r : Result Due AllocError) (c : Command) (bytes : List ℕ) → c ≡ C.Replay → IfOk r (λ d. IsReplayed bytes d.status d.text × (d.history ≡ None)) → IfOk r (λ d. IsDue (Some c) bytes d.status d.history d.text)
all_replayed (Err e) c bytes is o = o
all_replayed (Ok d) c bytes is o =
    subst (λ (x : Command). IsDue (Some x) bytes d.status d.history d.text) (sym is) (subst (λ (h : Option History). IsDue (Some C.Replay) bytes d.status h d.text) (sym o.1) (replayed bytes d.status d.text o.0))

-- a command owes what its work on its script owes
pub owed_so : (d : Due) (c like : Command) (work given : Work) (bytes : List ℕ) → c ≡ like → given ≡ work → work_of like ≡ Some work → IsOwed given (script_of like bytes) d.status d.history d.text
    → IsDue (Some c) bytes d.status d.history d.text
owed_so d c like work given bytes is same works o =
    subst (λ (x : Command). IsDue (Some x) bytes d.status d.history d.text) (sym is)
    (owed like work bytes d.status d.history d.text works (subst (λ (w : Work). IsOwed w (script_of like bytes) d.status d.history d.text) same o))

-- the same of an answer that may be want of memory
pub all_owed : (r : Result Due AllocError) (c like : Command) (work given : Work) (bytes : List ℕ) → c ≡ like → given ≡ work → work_of like ≡ Some work
    → IfOk r (λ d. IsOwed given (script_of like bytes) d.status d.history d.text) → IfOk r (λ d. IsDue (Some c) bytes d.status d.history d.text)
all_owed (Ok d) c like work given bytes is same works o = owed_so d c like work given bytes is same works o
all_owed (Err e) c like work given bytes is same works o = o

-- the line as the code writes it
pub usage_is : codes "usage: jl run|trace|ambiguous [--threads N] [--fuel N] | jl check|replay | jl gen N [--threads N] [--fuel N] | jl which NAME TYPE [--threads N] [--fuel N]\n" ≡ usage_line
unfolding usage_line
usage_is = refl

-- what is due for the same bytes and text
pub due_along : (asked : Option Command) (bs bs' t t' : List ℕ) (st : ℕ) (h : Option History) → bs ≡ bs' → t' ≡ t → IsDue asked bs st h t → IsDue asked bs' st h t'
due_along asked bs bs' t t' st h f g due =
    subst (λ (x : List ℕ). IsDue asked x st h t') f (subst (λ (x : List ℕ). IsDue asked bs st h x) (sym g) due)
