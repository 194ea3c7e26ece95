use Rattle.std.proofs.Common.{◌≡◌, ◌++◌}
use Rattle.jl_gen.specs.Script.{for_each, struct_line}
use Rattle.jl_gen.proofs.lines.append_structs.Given as goal

abbrev pub invariant-loop-i : goal.invariant-loop-i
invariant-loop-i l = l.out ≡ l.initial.out ++ for_each struct_line l.i
