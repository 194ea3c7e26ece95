use Rattle.std.proofs.Common.{codes}
use Rattle.jl_program.specs.Text.{function_name}
use Rattle.jl_text.proofs.PieceLemmas.{after-one}
use Rattle.jl_text.proofs.faults.append_no_such_method.Goals as goal

pub returns : goal.returns
returns c =
    after-one c.append-2.result c.args.out.now c.append-2.new.self c.append.new.self
    (codes "NoSuchMethod: ") (function_name c.args.program.now c.args.function) c.in_ok-append.ensures (rw (← c.function_name.ensures) c.append-2.ensures)
