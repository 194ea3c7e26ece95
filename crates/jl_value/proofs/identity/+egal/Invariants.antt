use Rattle.std.proofs.Common.{◌≡◌, ◌+◌, ◌*◌, map, drop}
use Rattle.jl_program.specs.Meaning.{datum}
use Rattle.jl_program.specs.Measures.{nodes, nodes_all}
use Rattle.jl_value.proofs.identity.+egal.Given as goal

abbrev pub decreases-egal : goal.decreases-egal
decreases-egal l = 3 * nodes (datum l.a.now)

abbrev pub decreases-egal_compounds : goal.decreases-egal_compounds
decreases-egal_compounds l = 3 * nodes_all l.a.now.parts + 2

abbrev pub decreases-egal_all : goal.decreases-egal_all
decreases-egal_all l = 3 * nodes_all (map datum l.xs.now) + 1

abbrev pub invariant-egal_all-loop-i : goal.invariant-egal_all-loop-i
invariant-egal_all-loop-i l = record {
  whole : map datum (drop l.i l.xs) ≡ map datum (drop l.i l.ys) → map datum l.xs ≡ map datum l.ys;
  rest : map datum l.xs ≡ map datum l.ys → map datum (drop l.i l.xs) ≡ map datum (drop l.i l.ys);
}
