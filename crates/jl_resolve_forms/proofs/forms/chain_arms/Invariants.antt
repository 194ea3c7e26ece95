use Rattle.std.proofs.Common.{◌≡◌, vec_len}
use Rattle.jl_resolve_forms.specs.Expressions.{chain_arms}
use Rattle.jl_resolve_forms.proofs.forms.chain_arms.Given as goal

abbrev pub invariant-loop-arm : goal.invariant-loop-arm
invariant-loop-arm l = chain_arms l.left.items l.code ≡ chain_arms l.initial.left.items l.initial.code

abbrev pub decreases-loop-arm : goal.decreases-loop-arm
decreases-loop-arm l = vec_len l.left
