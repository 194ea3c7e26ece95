-- What a text comes to, from what its parts answer.
use Rattle.std.proofs.Common.{◌≡◌, subst, ℕ, List, None}
use Rattle.jl_program.specs.declared.tree.Program.{Program}
use Rattle.jl_queue.specs.declared.setup.Setup.{Setup}
use Rattle.jl_work.specs.declared.running.Due.{Due}
use Rattle.jl_work.specs.declared.work.Telling.TheVariants.{Text}
use Rattle.jl_work.specs.declared.work.Work.TheVariants.{Run}
use Rattle.jl_work.specs.Owed.{AreProgram, IsFaultLine, IsResult, worked}
use Rattle.jl_work.proofs.RunningLemmas.{refused_so, setup_is}
use Rattle.jl_embed.specs.Texts.{session_work, RunsTo}

-- a text that is no program
pub refused_text : (d : Due) (text line : List ℕ) → IsFaultLine text line → (d.status ≡ 3) × (d.history ≡ None) × (d.text ≡ line) → RunsTo text d.history d.text
refused_text d text line fault h = record { status = d.status; owed = refused_so d session_work text line fault h }

-- one that was run
pub run_so : (d : Due) (text : List ℕ) (P : Program) (s : Setup) → AreProgram text P → (s.threads ≡ 4) × (s.fuel ≡ 10000000) → (s.keys ≡ 8192) × (s.rows ≡ 16384) → IsResult (Run s Text) P d.status d.history d.text → RunsTo text d.history d.text
run_so d text P s are numbers cache r =
    record {
      status = d.status;
      owed = worked session_work text P d.status d.history d.text are (subst (λ (x : Setup). IsResult (Run x Text) P d.status d.history d.text) (setup_is s 4 10000000 numbers cache) r);
    }
