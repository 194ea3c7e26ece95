use Rattle.std.proofs.Common.{◌≡◌, ◌+◌, ◌≤◌, drop}
use Rattle.jl_work.proofs.PlaceLemmas.{column_from}
use Rattle.jl_work.proofs.place.column_behind.Given as goal

abbrev pub invariant-loop-byte : goal.invariant-loop-byte
invariant-loop-byte l = record {
  fits : l.column ≤ l.byte-index + 1;
  rest : column_from l.column (drop l.byte-index l.bytes) ≡ column_from 1 l.bytes;
}
