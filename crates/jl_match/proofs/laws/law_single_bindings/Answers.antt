use Rattle.jl_match.proofs.BindingLaws.{binding_concrete, binding_stands, only_standing}
use Rattle.jl_match.proofs.laws.law_single_bindings.Goals as goal

pub returns-clause-concrete : goal.returns-clause-concrete
returns-clause-concrete c ds declared s own placed ts types h v usable single =
    binding_concrete ds declared s own placed ts types h.0 h.1 h.2 (record { serves = h.3; below = h.5 }) v usable single

pub returns-clause-stands : goal.returns-clause-stands
returns-clause-stands c ds declared s own placed ts types h v usable single =
    binding_stands ds declared s own placed ts types h.0 h.1 h.2 (record { serves = h.3; below = h.5 }) v usable single

pub returns-clause-only : goal.returns-clause-only
returns-clause-only c n s own placed ts v usable single y h = only_standing n s own placed ts v usable single y h
