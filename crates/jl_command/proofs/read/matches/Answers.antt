use Rattle.std.proofs.Common.{◌≡◌, subst}
use Rattle.std.specs.Prelude.{◌↔◌}
use Rattle.clap.specs.Words.{app_of, found_of, rows_of, subcommand_rows_of}
use Rattle.clap.specs.Values.{kind_of}
use Rattle.clap.specs.declared.error.kind.ErrorKind.{ErrorKind}
use Rattle.clap.specs.declared.error.kind.ErrorKind.TheVariants.{OutOfMemory}
use Rattle.jl_command.specs.declared.read.WordsFault.TheVariants.{Memory}
use Rattle.jl_command.specs.Texts.{texts}
use Rattle.jl_command.proofs.Decide.{is_faultless, rows_found, is_refused}
use Rattle.jl_command.proofs.read.matches.Goals as goal

pub returns-in-Ok-try_get_matches_from-clause-found : goal.returns-in-Ok-try_get_matches_from-clause-found
returns-in-Ok-try_get_matches_from-clause-found c = is_faultless (app_of c.in-Ok.command) (texts c.args.words.now) c.in-Ok.ensures.app c.in-Ok-try_get_matches_from.ensures.kinds

pub returns-in-Ok-try_get_matches_from-clause-rows : goal.returns-in-Ok-try_get_matches_from-clause-rows
returns-in-Ok-try_get_matches_from-clause-rows c =
    let m = c.in-Ok-try_get_matches_from.matches in
    rows_found (app_of c.in-Ok.command) (texts c.args.words.now) (rows_of (found_of m)) (subcommand_rows_of m) c.in-Ok.ensures.app c.in-Ok-try_get_matches_from.ensures.matches

pub returns-in-Err-clause-refused : goal.returns-in-Err-clause-refused
returns-in-Err-clause-refused c =
    is_refused (app_of c.in-Ok.command) (texts c.args.words.now) (kind_of c.in-Err.error) c.fault-fault.result c.in-Ok.ensures.app c.in-Err.ensures.kinds
    (subst (λ (k : ErrorKind). (c.fault-fault.result ≡ Memory) ↔ (k ≡ OutOfMemory)) c.kind.ensures c.fault-fault.ensures)
