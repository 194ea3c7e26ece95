use Rattle.std.proofs.Common.{codes, decimal}
use Rattle.jl_text.proofs.PieceLemmas.{after-two}
use Rattle.jl_text.proofs.faults.append_fuel_spent.Goals as goal

pub returns : goal.returns
returns c =
    after-two c.append-2.result c.args.out.now c.append-2.new.self c.append.new.self c.append_unsigned.new.out
    (codes "FuelSpent: ") (decimal c.args.fuel) (codes " calls") c.in_ok-append.ensures c.in_ok-append_unsigned.ensures c.append-2.ensures
