use Rattle.std.proofs.Common.{◌∙◌, sym}
use Rattle.clap.specs.Words.{subcommand_rows_of}
use Rattle.jl_command.specs.Texts.{texts}
use Rattle.jl_command.proofs.Decide.{opened_refused, answered_ok, answered_err}
use Rattle.jl_command.proofs.Ranges.{all_in_range}
use Rattle.jl_command.proofs.read.command.Goals as goal

pub returns-in-Ok-clause-command : goal.returns-in-Ok-clause-command
returns-in-Ok-clause-command c =
    answered_ok (texts c.args.words.now) c.in-Some.verb (subcommand_rows_of c.in-Ok.matches) c.answer.result
    (sym c.opening.ensures ∙ c.in-Some.is) c.in-Ok.ensures.found c.in-Ok.ensures.rows c.answer.ensures

pub returns-in-Ok-clause-ranges : goal.returns-in-Ok-clause-ranges
returns-in-Ok-clause-ranges c = all_in_range (texts c.args.words.now) c.answer.result (returns-in-Ok-clause-command c)

pub returns-in-Ok-clause-refused : goal.returns-in-Ok-clause-refused
returns-in-Ok-clause-refused c =
    answered_err (texts c.args.words.now) c.in-Some.verb (subcommand_rows_of c.in-Ok.matches) c.answer.result
    (sym c.opening.ensures ∙ c.in-Some.is) c.in-Ok.ensures.found c.in-Ok.ensures.rows c.answer.ensures

pub returns-in-Err-clause-refused : goal.returns-in-Err-clause-refused
returns-in-Err-clause-refused c =
    λ none. opened_refused (texts c.args.words.now) c.in-Some.verb (sym c.opening.ensures ∙ c.in-Some.is) (c.in-Err.ensures.refused none)
