use Rattle.std.proofs.Common.{◌≡◌, ◌-◌, ◌^◌, ◌<◌, map, min, max, drop}
use Rattle.jl_program.specs.Meaning.{datum}
use Rattle.jl_program.specs.Measures.{depth_all}
use Rattle.jl_program.proofs.value.find_depth.Given as goal

abbrev pub invariant-loop-value : goal.invariant-loop-value
invariant-loop-value l = record {
  fits : l.depth < 2 ^ 64;
  depth : min (max l.depth (depth_all (map datum (drop l.value-index l.values)))) (2 ^ 64 - 1) ≡ min (depth_all (map datum l.values)) (2 ^ 64 - 1);
}
