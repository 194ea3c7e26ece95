use Rattle.std.proofs.Common.{ap, refl}
use Rattle.jl_command.specs.declared.commands.Command.TheVariants as C
use Rattle.jl_queue.specs.declared.setup.Setup.{Setup}
use Rattle.jl_work.specs.declared.work.Question.{Question}
use Rattle.jl_work.specs.declared.work.Work.TheVariants as W
use Rattle.jl_work.specs.declared.work.Telling.TheVariants as T
use Rattle.jl_work.specs.Work.{whole_setup}
use Rattle.jl_work.proofs.RunningLemmas.{setup_is}
use Rattle.jl_cli.proofs.Running.{all_owed, all_replayed}
use Rattle.jl_cli.proofs.answering.answer.Goals as goal

pub with_whole_cache-setup-requires-clause-threads : goal.with_whole_cache-setup-requires-clause-threads
with_whole_cache-setup-requires-clause-threads g c = let r = rw c.in-Run.is at c.requires.ranges in record { some = r.0; few = r.1 }

pub with_whole_cache-setup-requires-clause-fuel : goal.with_whole_cache-setup-requires-clause-fuel
with_whole_cache-setup-requires-clause-fuel g c = (rw c.in-Run.is at c.requires.ranges).2

pub with_whole_cache-setup-requires-in-Trace-clause-threads : goal.with_whole_cache-setup-requires-in-Trace-clause-threads
with_whole_cache-setup-requires-in-Trace-clause-threads g c = let r = rw c.in-Trace.is at c.requires.ranges in record { some = r.0; few = r.1 }

pub with_whole_cache-setup-requires-in-Trace-clause-fuel : goal.with_whole_cache-setup-requires-in-Trace-clause-fuel
with_whole_cache-setup-requires-in-Trace-clause-fuel g c = (rw c.in-Trace.is at c.requires.ranges).2

pub with_whole_cache-setup-requires-in-Gen-clause-threads : goal.with_whole_cache-setup-requires-in-Gen-clause-threads
with_whole_cache-setup-requires-in-Gen-clause-threads g c = let r = rw c.in-Gen.is at c.requires.ranges in record { some = r.1; few = r.2 }

pub with_whole_cache-setup-requires-in-Gen-clause-fuel : goal.with_whole_cache-setup-requires-in-Gen-clause-fuel
with_whole_cache-setup-requires-in-Gen-clause-fuel g c = (rw c.in-Gen.is at c.requires.ranges).3

pub with_whole_cache-setup-requires-in-Which-clause-threads : goal.with_whole_cache-setup-requires-in-Which-clause-threads
with_whole_cache-setup-requires-in-Which-clause-threads g c = let r = rw c.in-Which.is at c.requires.ranges in record { some = r.0; few = r.1 }

pub with_whole_cache-setup-requires-in-Which-clause-fuel : goal.with_whole_cache-setup-requires-in-Which-clause-fuel
with_whole_cache-setup-requires-in-Which-clause-fuel g c = (rw c.in-Which.is at c.requires.ranges).2

pub with_whole_cache-setup-requires-in-Ambiguous-clause-threads : goal.with_whole_cache-setup-requires-in-Ambiguous-clause-threads
with_whole_cache-setup-requires-in-Ambiguous-clause-threads g c = let r = rw c.in-Ambiguous.is at c.requires.ranges in record { some = r.0; few = r.1 }

pub with_whole_cache-setup-requires-in-Ambiguous-clause-fuel : goal.with_whole_cache-setup-requires-in-Ambiguous-clause-fuel
with_whole_cache-setup-requires-in-Ambiguous-clause-fuel g c = (rw c.in-Ambiguous.is at c.requires.ranges).2

pub generated-requires-clause-number : goal.generated-requires-clause-number
generated-requires-clause-number g c = λ κs bounds. (rw c.in-Gen.is at c.requires.ranges).0

pub returns-in-Run : goal.returns-in-Run
returns-in-Run g c =
    all_owed c.owed_run.result c.args.command.now (C.Run c.in-Run.threads c.in-Run.fuel) (W.Run (whole_setup c.in-Run.threads c.in-Run.fuel) T.Text) (W.Run c.with_whole_cache-setup.result T.Text) c.args.bytes.now c.in-Run.is
    (ap (λ (s : Setup). W.Run s T.Text) (setup_is c.with_whole_cache-setup.result c.in-Run.threads c.in-Run.fuel c.with_whole_cache-setup.ensures.given c.with_whole_cache-setup.ensures.cache)) refl c.owed_run.ensures

pub returns-in-Trace : goal.returns-in-Trace
returns-in-Trace g c =
    all_owed c.owed_run-in-Trace.result c.args.command.now (C.Trace c.in-Trace.threads c.in-Trace.fuel) (W.Run (whole_setup c.in-Trace.threads c.in-Trace.fuel) T.Trace) (W.Run c.with_whole_cache-setup-in-Trace.result T.Trace) c.args.bytes.now c.in-Trace.is
    (ap (λ (s : Setup). W.Run s T.Trace) (setup_is c.with_whole_cache-setup-in-Trace.result c.in-Trace.threads c.in-Trace.fuel c.with_whole_cache-setup-in-Trace.ensures.given c.with_whole_cache-setup-in-Trace.ensures.cache)) refl c.owed_run-in-Trace.ensures

pub returns-in-Gen : goal.returns-in-Gen
returns-in-Gen g c =
    all_owed c.generated.result c.args.command.now (C.Gen c.in-Gen.n c.in-Gen.threads c.in-Gen.fuel) (W.Run (whole_setup c.in-Gen.threads c.in-Gen.fuel) (T.Summary c.in-Gen.n)) (W.Run c.with_whole_cache-setup-in-Gen.result (T.Summary c.in-Gen.n)) c.args.bytes.now c.in-Gen.is
    (ap (λ (s : Setup). W.Run s (T.Summary c.in-Gen.n)) (setup_is c.with_whole_cache-setup-in-Gen.result c.in-Gen.threads c.in-Gen.fuel c.with_whole_cache-setup-in-Gen.ensures.given c.with_whole_cache-setup-in-Gen.ensures.cache)) refl c.generated.ensures

pub returns-in-Which : goal.returns-in-Which
returns-in-Which g c =
    let question : Question = record { name = c.in-Which.name; ty = c.in-Which.ty } in
    all_owed c.owed_answer.result c.args.command.now (C.Which c.in-Which.name c.in-Which.ty c.in-Which.threads c.in-Which.fuel) (W.Which (whole_setup c.in-Which.threads c.in-Which.fuel) question) (W.Which c.with_whole_cache-setup-in-Which.result question) c.args.bytes.now c.in-Which.is
    (ap (λ (s : Setup). W.Which s question) (setup_is c.with_whole_cache-setup-in-Which.result c.in-Which.threads c.in-Which.fuel c.with_whole_cache-setup-in-Which.ensures.given c.with_whole_cache-setup-in-Which.ensures.cache)) refl c.owed_answer.ensures

pub returns-in-Ambiguous : goal.returns-in-Ambiguous
returns-in-Ambiguous g c =
    all_owed c.owed_run-in-Ambiguous.result c.args.command.now (C.Ambiguous c.in-Ambiguous.threads c.in-Ambiguous.fuel) (W.Run (whole_setup c.in-Ambiguous.threads c.in-Ambiguous.fuel) T.Pairs) (W.Run c.with_whole_cache-setup-in-Ambiguous.result T.Pairs) c.args.bytes.now c.in-Ambiguous.is
    (ap (λ (s : Setup). W.Run s T.Pairs) (setup_is c.with_whole_cache-setup-in-Ambiguous.result c.in-Ambiguous.threads c.in-Ambiguous.fuel c.with_whole_cache-setup-in-Ambiguous.ensures.given c.with_whole_cache-setup-in-Ambiguous.ensures.cache)) refl c.owed_run-in-Ambiguous.ensures

pub returns-in-Check : goal.returns-in-Check
returns-in-Check g c = all_owed c.owe.result c.args.command.now C.Check W.Check W.Check c.args.bytes.now c.in-Check.is refl refl c.owe.ensures

pub replayed-requires : goal.replayed-requires
replayed-requires g c = rw c.in-Replay.is at c.requires.limited

pub returns-in-Replay : goal.returns-in-Replay
returns-in-Replay g c = all_replayed c.replayed.result c.args.command.now c.args.bytes.now c.in-Replay.is c.replayed.ensures
