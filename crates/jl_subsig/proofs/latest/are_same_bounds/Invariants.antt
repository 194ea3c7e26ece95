use Rattle.std.proofs.Common.{◌≡◌, take, length}
use Rattle.jl_subsig.proofs.latest.are_same_bounds.Given as goal

abbrev pub invariant-loop-i : goal.invariant-loop-i
invariant-loop-i l = record {
  same_so_far : take l.i l.xs ≡ take l.i l.ys;
  as_long : length l.xs ≡ length l.ys;
}
