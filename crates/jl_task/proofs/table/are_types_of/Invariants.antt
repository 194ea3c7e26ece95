use Rattle.std.proofs.Common.{◌≡◌, map, take, length}
use Rattle.jl_program.specs.TypeOf.{type_of}
use Rattle.jl_task.proofs.table.are_types_of.Given as goal

abbrev pub invariant-loop-i : goal.invariant-loop-i
invariant-loop-i l = record {
  same_so_far : map type_of (take l.i l.values) ≡ take l.i l.types;
  as_long : length l.types ≡ length l.values;
}
