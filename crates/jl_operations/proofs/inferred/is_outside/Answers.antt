use Rattle.jl_operations.proofs.InferLemmas.{inside_ground, outside_is}
use Rattle.jl_operations.proofs.inferred.is_outside.Goals as goal

pub have_outside-requires : goal.have_outside-requires
have_outside-requires c =
    inside_ground c.args.table.now c.args.ty.now c.in_ok-copy.field-0 c.as_slice.result.now c.as_slice-2.result.now c.in_ok-arguments.arguments.items c.as_slice.ensures c.in_ok-copy.ensures c.in_ok-arguments.ensures
    c.as_slice-2.ensures.value c.requires

pub returns : goal.returns
returns c =
    outside_is c.args.table.now c.args.ty.now c.in_ok-copy.field-0 c.as_slice.result.now c.as_slice-2.result.now c.in_ok-arguments.arguments.items c.have_outside.result c.as_slice.ensures c.in_ok-copy.ensures
    c.in_ok-arguments.ensures c.as_slice-2.ensures.value c.requires c.have_outside.ensures
