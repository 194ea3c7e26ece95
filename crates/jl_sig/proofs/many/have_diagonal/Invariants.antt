use Rattle.std.proofs.Common.{◌≡◌, drop}
use Rattle.std.specs.List.{list_any}
use Rattle.jl_model.specs.Signature.{is_diagonal}
use Rattle.jl_sig.specs.KindIn.{kind_in}
use Rattle.jl_sig.proofs.many.have_diagonal.Given as goal

abbrev pub invariant-loop-kind : goal.invariant-loop-kind
invariant-loop-kind l = list_any (λ k. is_diagonal (kind_in k)) l.kinds ≡ list_any (λ k. is_diagonal (kind_in k)) (drop l.kind-index l.kinds)
