use Rattle.std.proofs.Common.{map, drop}
use Rattle.std.specs.List.{Contains}
use Rattle.jl_norm.proofs.names.is_named.Given as goal

abbrev pub invariant-loop-field : goal.invariant-loop-field
invariant-loop-field l = Contains (map (λ f. f.name) l.fields) l.name → Contains (map (λ f. f.name) (drop l.field-index l.fields)) l.name
