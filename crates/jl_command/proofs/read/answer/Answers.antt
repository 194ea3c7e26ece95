use Rattle.std.proofs.Common.{◌∙◌, sym}
use Rattle.clap.specs.Words.{found_of, subcommand_rows_of}
use Rattle.jl_command.proofs.Decide.{by_rows}
use Rattle.jl_command.proofs.read.answer.Goals as goal

pub returns-in-Ok-Some : goal.returns-in-Ok-Some
returns-in-Ok-Some c = by_rows c.args.verb (found_of c.in-Some.found.now) (subcommand_rows_of c.args.matches.now) c.in-Some.ensures.rows ∙ sym c.in-Ok-Some.ensures ∙ c.in-Ok-Some.field-0-is

pub returns-in-Ok-None : goal.returns-in-Ok-None
returns-in-Ok-None c = λ e. by_rows c.args.verb (found_of c.in-Some.found.now) (subcommand_rows_of c.args.matches.now) c.in-Some.ensures.rows ∙ sym c.in-Ok-None.ensures ∙ c.in-Ok-None.field-0-is
