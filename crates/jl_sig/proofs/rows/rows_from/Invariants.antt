use Rattle.std.proofs.Common.{◌≡◌, ◌≤◌, ◌++◌, map, length, drop}
use Rattle.jl_sig.specs.Built.{listed, rows_from}
use Rattle.jl_sig.proofs.rows.rows_from.Given as goal

abbrev pub invariant-loop-row : goal.invariant-loop-row
invariant-loop-row l = record {
  few : length l.rows.items ≤ 256;
  rest : (map listed l.rows.items ++ rows_from l.written l.picks (drop l.row-index l.components)) ≡ rows_from l.written l.picks l.components;
}
