use Rattle.jl_match.proofs.BindingLaws.{binding_serves, binding_below}
use Rattle.jl_match.proofs.laws.law_bindings.Goals as goal

pub returns-clause-serve : goal.returns-clause-serve
returns-clause-serve c ds declared s own placed ts types r f row fits v usable kinds = binding_serves ds declared s own placed ts types r f row fits v usable kinds

pub returns-clause-once : goal.returns-clause-once
returns-clause-once c ds declared s own placed ts types r f row fits v usable single = binding_below ds declared s own placed ts types r f row fits v usable single
