use Rattle.std.proofs.Common.{codes, decimal}
use Rattle.jl_program.specs.Text.{function_name, types_text}
use Rattle.jl_text.proofs.PieceLemmas.{after-six}
use Rattle.jl_text.proofs.faults.append_ambiguous.Goals as goal

pub returns : goal.returns
returns c =
    after-six c.append_unsigned-2.result c.args.out.now c.append_unsigned-2.new.out
    c.append.new.self c.append_call.new.out c.append-2.new.self c.append_unsigned.new.out c.append-3.new.self
    (codes "MethodError: ") (function_name c.args.program.now c.args.function) (types_text c.args.program.now c.args.types.now)
    (codes " is ambiguous between definitions ") (decimal c.args.first) (codes " and ") (decimal c.args.second)
    c.in_ok-append.ensures c.in_ok-append_call.ensures c.in_ok-append-2.ensures (rw (← c.from.ensures) c.in_ok-append_unsigned.ensures)
    c.in_ok-append-3.ensures (rw (← c.from-2.ensures) c.append_unsigned-2.ensures)
