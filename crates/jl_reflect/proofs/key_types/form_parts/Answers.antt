use Rattle.jl_reflect.specs.Asked.{IsForm}
use Rattle.jl_reflect.proofs.FormLemmas.{found_some, form_tuple}
use Rattle.jl_reflect.proofs.key_types.form_parts.Goals as goal

pub returns : goal.returns
returns c =
    let ds = c.args.table.now in
    let t = c.args.ty.now in
    form_tuple ds c.valid.ensures t c.in-Some.form (found_some (IsForm ds t) c.in_ok-form.field-0 c.in-Some.form c.in-Some.is c.in_ok-form.ensures.form) c.in_ok-parts.parts c.in_ok-parts.ensures
