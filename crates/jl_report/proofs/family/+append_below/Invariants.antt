use Rattle.std.proofs.Common.{◌≡◌, ◌-◌, ◌++◌, drop}
use Rattle.std.specs.List.{flat_map}
use Rattle.jl_report.specs.Family.{printed_below}
use Rattle.jl_report.proofs.family.+append_below.Given as goal

abbrev pub decreases-append_below : goal.decreases-append_below
decreases-append_below l = l.generations

abbrev pub invariant-loop-child : goal.invariant-loop-child
invariant-loop-child l =
    l.out ++ flat_map (printed_below l.family.outputs.items l.family.children.items (l.generations - 1)) (drop l.child-index l.child-items)
    ≡ l.initial.out ++ flat_map (printed_below l.family.outputs.items l.family.children.items (l.generations - 1)) (drop 0 l.child-items)
