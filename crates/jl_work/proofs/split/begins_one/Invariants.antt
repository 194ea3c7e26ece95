use Rattle.std.proofs.Common.{◌≡◌, drop}
use Rattle.jl_work.specs.Split.{texts, begins_one}
use Rattle.jl_work.proofs.split.begins_one.Given as goal

abbrev pub invariant-loop-line : goal.invariant-loop-line
invariant-loop-line l = begins_one (texts (drop l.line-index l.lines)) l.bytes ≡ begins_one (texts l.lines) l.bytes
