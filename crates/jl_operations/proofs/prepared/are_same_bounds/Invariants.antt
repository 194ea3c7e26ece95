use Rattle.std.proofs.Common.{◌≡◌, take, length}
use Rattle.jl_operations.proofs.prepared.are_same_bounds.Given as goal

abbrev pub invariant-loop-i : goal.invariant-loop-i
invariant-loop-i l = record {
  same_so_far : take l.i l.lefts ≡ take l.i l.rights;
  as_long : length l.lefts ≡ length l.rights;
}
