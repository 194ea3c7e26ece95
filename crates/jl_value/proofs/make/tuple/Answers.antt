use Rattle.jl_value.proofs.MakeLemmas.{made_valid, tuple_made}
use Rattle.jl_value.proofs.make.tuple.Goals as goal

pub returns-clause-valid : goal.returns-clause-valid
returns-clause-valid c =
    made_valid _ c.within_limits.result _ _ c.within_limits.ensures.same c.within_limits.ensures.within
    (λ w. tuple_made c.args.table.now c.in_ok-made.made c.in_ok-ty.ty c.args.parts c.as_slice.result.now c.in_ok-made.ensures c.as_slice.ensures c.requires.parts_valid c.in_ok-ty.ensures.made c.in_ok-ty.ensures.small w)
