use Rattle.std.proofs.Common.{◌≡◌, ◌+◌, ◌≤◌, drop}
use Rattle.jl_names.specs.Numbers.{count_named}
use Rattle.jl_names.proofs.slots.count_named.Given as goal

abbrev pub invariant-loop-name : goal.invariant-loop-name
invariant-loop-name l = (l.count + count_named (drop l.name-index l.names) ≡ count_named l.names) × (l.count ≤ l.name-index)
