use Rattle.std.proofs.Common.{◌≡◌, ◌+◌, ◌≤◌, drop}
use Rattle.jl_work.specs.Place.{newlines}
use Rattle.jl_work.proofs.place.line_behind.Given as goal

abbrev pub invariant-loop-byte : goal.invariant-loop-byte
invariant-loop-byte l = record {
  fits : l.line ≤ l.byte-index + 1;
  rest : l.line + newlines (drop l.byte-index l.bytes) ≡ 1 + newlines l.bytes;
}
