use Rattle.std.proofs.Common.{◌-◌, ◌≤◌}
use Rattle.jl_sites.specs.Spots.{IsReached}
use Rattle.jl_sites.proofs.spot.move_to.Given as goal

abbrev pub invariant-loop-cursor : goal.invariant-loop-cursor
invariant-loop-cursor l = record {
  reached : IsReached l.bytes l.cursor;
  before : l.cursor.at ≤ l.end;
}

abbrev pub decreases-loop-cursor : goal.decreases-loop-cursor
decreases-loop-cursor l = l.end - l.cursor.at
