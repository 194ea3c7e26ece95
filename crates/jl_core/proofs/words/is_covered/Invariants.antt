use Rattle.std.proofs.Common.{◌≡◌, drop}
use Rattle.jl_core.specs.Asked.{any_reached}
use Rattle.jl_core.proofs.words.is_covered.Given as goal

abbrev pub invariant-loop-row : goal.invariant-loop-row
invariant-loop-row l = any_reached l.key l.world (drop l.row-index l.rows) ≡ any_reached l.key l.world l.rows
