use Rattle.jl_value.proofs.MakeLemmas.{made_valid, struct_made}
use Rattle.jl_value.proofs.make.construct.Goals as goal

pub returns-clause-valid : goal.returns-clause-valid
returns-clause-valid c =
    made_valid _ c.within_limits.result _ _ c.within_limits.ensures.same c.within_limits.ensures.within
    (λ w. struct_made c.args.table.now c.in_ok-made.made c.args.ty.now c.in_ok-ty.ty c.args.parts c.as_slice.result.now c.in_ok-made.ensures c.as_slice.ensures c.in_ok-ty.ensures c.requires.parts_valid c.requires.struct_type c.in_ok-check_parts.ensures.all w)
