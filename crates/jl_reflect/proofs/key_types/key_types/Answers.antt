use Rattle.std.proofs.Common.{subst}
use Rattle.jl_reflect.specs.Asked.{IsTupleOf, AreKeyTypes, Finds}
use Rattle.jl_reflect.proofs.FormLemmas.{found_some, types_found}
use Rattle.jl_reflect.proofs.key_types.key_types.Goals as goal

pub returns : goal.returns
returns c =
    let ds = c.args.table.now in
    let t = c.args.ty.now in
    let parts = c.in-Some.parts in
    types_found ds c.valid.ensures t parts (found_some (IsTupleOf ds t) c.in_ok-parts.field-0 parts c.in-Some.is c.in_ok-parts.ensures) c.in_ok-types.types
    (subst (λ ps. Finds (AreKeyTypes ds ps) c.in_ok-types.types) c.as_slice.ensures c.in_ok-types.ensures)
