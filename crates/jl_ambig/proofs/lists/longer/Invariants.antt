use Rattle.std.proofs.Common.{◌≡◌, ◌++◌, drop}
use Rattle.jl_ambig.specs.Probes.{longer}
use Rattle.jl_ambig.proofs.lists.longer.Given as goal

abbrev pub invariant-loop-list : goal.invariant-loop-list
invariant-loop-list l = (l.out.items ++ longer (drop l.list-index l.lists) l.types) ≡ longer l.lists l.types
