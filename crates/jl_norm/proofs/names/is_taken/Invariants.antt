use Rattle.std.proofs.Common.{map, drop}
use Rattle.std.specs.List.{Contains}
use Rattle.jl_norm.proofs.names.is_taken.Given as goal

abbrev pub invariant-loop-number : goal.invariant-loop-number
invariant-loop-number l = Contains (map (λ e. e.name) l.table) l.decl.name → Contains (map (λ e. e.name) (drop l.number l.table)) l.decl.name
