use Rattle.std.proofs.Common.{◌≡◌, ◌++◌, map, drop}
use Rattle.jl_model.specs.Signature.{is_diagonal}
use Rattle.jl_sig.specs.declared.kind.Kind.{Kind}
use Rattle.jl_sig.specs.KindIn.{kind_in}
use Rattle.jl_sig.proofs.kept.diagonals.Given as goal

abbrev pub invariant-loop-kind : goal.invariant-loop-kind
invariant-loop-kind l = (l.diagonals.items ++ map (λ (k : Kind). is_diagonal (kind_in k)) (drop l.kind-index l.kinds)) ≡ map (λ (k : Kind). is_diagonal (kind_in k)) l.kinds
