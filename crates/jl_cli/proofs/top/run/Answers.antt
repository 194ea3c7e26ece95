use Rattle.std.proofs.Common.{◌∙◌, [], refl, None, Some, arith}
use Rattle.jl_io.proofs.MovedLemmas.{Gives-none}
use Rattle.jl_command.specs.Texts.{texts}
use Rattle.jl_command.specs.Rule.{command_of}
use Rattle.jl_cli.proofs.Running.{refused_memory, ended_along, run_along, used, usage_is}
use Rattle.jl_cli.proofs.top.run.Goals as goal

pub obey-requires-after_bounds : goal.obey-requires-after_bounds
obey-requires-after_bounds g c = λ κs bounds. c.in-Ok.ensures.ranges

pub returns-in-Ok-clause-ran : goal.returns-in-Ok-clause-ran
returns-in-Ok-clause-ran g c = run_along (Some c.in-Ok.command) (command_of (texts c.args.words.now)) _ _ _ _ _ _ _ _ c.in-Ok.ensures.command c.obey.ensures.ran

pub returns-in-Err-NoCommand-clause-ran : goal.returns-in-Err-NoCommand-clause-ran
returns-in-Err-NoCommand-clause-ran g c =
    run_along None (command_of (texts c.args.words.now)) _ _ _ _ _ _ _ _ (c.in-Err-NoCommand.ensures.refused c.in-Err-NoCommand.field-0-is)
    (used _ _ _ _ _ c.as_bytes.result.now _ _ (c.as_bytes.ensures.value ∙ usage_is) c.deliver.ensures.delivered)

pub returns-clause-ran : goal.returns-clause-ran
returns-clause-ran g c =
    ended_along (command_of (texts c.args.words.now)) _ _ _ _ _ _ 6 c.without_history.result.status c.without_history.result.history c.without_history.ensures
    (refused_memory (command_of (texts c.args.words.now)) _ _ _ _ _ _ [] (Gives-none _) (omega arith) (omega arith) refl)
