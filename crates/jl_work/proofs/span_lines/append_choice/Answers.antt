use Rattle.std.proofs.Common.{codes, decimal}
use Rattle.jl_work.proofs.LineLemmas.{after_one}
use Rattle.jl_work.proofs.span_lines.append_choice.Goals as goal

pub returns-in_ok-append-in-Method : goal.returns-in_ok-append-in-Method
returns-in_ok-append-in-Method c =
    rw c.in-Method.is
    (after_one c.append_world.result c.args.out.now c.append_world.new.out c.append-in-Method.new.self (codes "definition ") (decimal c.in-Method.d) c.in_ok-append-in-Method.ensures c.append_world.ensures)
