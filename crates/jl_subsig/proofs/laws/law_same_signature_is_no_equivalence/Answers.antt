use Rattle.std.proofs.Common.{true, false}
use Rattle.jl_subsig.proofs.ChainLemmas.{scope_is, middle_scope, first_is_middle, middle_is_last, first_is_not_last}
use Rattle.jl_subsig.proofs.laws.law_same_signature_is_no_equivalence.Goals as goal

pub returns : goal.returns
returns c = record { scoped = (scope_is false, middle_scope, scope_is true); one_two = first_is_middle; two_three = middle_is_last; one_three = first_is_not_last }
