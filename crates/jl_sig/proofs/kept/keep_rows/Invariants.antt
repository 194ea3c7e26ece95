use Rattle.std.proofs.Common.{◌++◌, drop, map, List}
use Rattle.jl_sig.specs.declared.row.SigRow.{SigRow}
use Rattle.jl_sig.specs.Built.{listed}
use Rattle.jl_sig.specs.Fit.{AreKeptRows}
use Rattle.jl_sig.proofs.kept.keep_rows.Given as goal

abbrev pub invariant-loop-row : goal.invariant-loop-row
invariant-loop-row l = (ks : List SigRow) → AreKeptRows l.table (map listed (drop l.row-index l.rows)) ks → AreKeptRows l.table (map listed l.rows) (l.kept.items ++ ks)
