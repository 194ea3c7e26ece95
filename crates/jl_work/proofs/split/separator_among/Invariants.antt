use Rattle.std.proofs.Common.{◌≡◌, drop}
use Rattle.jl_work.specs.Split.{texts, separator_from, separator_among}
use Rattle.jl_work.proofs.split.separator_among.Given as goal

abbrev pub invariant-loop-place : goal.invariant-loop-place
invariant-loop-place l = record {
  rest : separator_from (texts l.lines) l.place l.begins_line (drop l.place l.bytes) ≡ separator_among (texts l.lines) l.bytes;
}
