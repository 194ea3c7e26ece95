use Rattle.std.proofs.Common.{◌≡◌, ◌++◌, map, drop}
use Rattle.jl_sig.specs.Built.{listed}
use Rattle.jl_sig.proofs.RowLemmas.{with_parts}
use Rattle.jl_sig.proofs.rows.push_rows.Given as goal

abbrev pub invariant-loop-chosen : goal.invariant-loop-chosen
invariant-loop-chosen l = (map listed l.rows.items ++ with_parts l.parts (drop l.chosen-index l.choices)) ≡ map listed l.initial.rows.items ++ with_parts l.parts l.choices
