use Rattle.std.proofs.Common.{codes}
use Rattle.jl_program.specs.Text.{value_text}
use Rattle.jl_report.proofs.PieceLemmas.{after_two}
use Rattle.jl_report.proofs.entries.append_value_line.Goals as goal

pub returns : goal.returns
returns c =
    after_two c.append-2.result c.args.out.now c.append-2.new.self c.append.new.self c.append_value.new.out
    (codes "outcome value ") (value_text c.args.program.now c.args.value.now) (codes "\n") c.in_ok-append.ensures c.in_ok-append_value.ensures c.append-2.ensures
