use Rattle.jl_reflect.specs.Asked.{Means}
use Rattle.jl_reflect.proofs.FormLemmas.{found_some, found_none}
use Rattle.jl_reflect.proofs.AskedLemmas.{type_found}
use Rattle.jl_reflect.proofs.key.written_types.Goals as goal

pub returns-in_default : goal.returns-in_default
returns-in_default c = λ us m. found_none (Means c.args.table.now c.args.text.now) c.in_ok-ty.field-0 c.in_default.is c.in_ok-ty.ensures m.type m.means

pub returns : goal.returns
returns c =
    let ds = c.args.table.now in
    let text = c.args.text.now in
    type_found ds text c.in-Some.ty (found_some (Means ds text) c.in_ok-ty.field-0 c.in-Some.ty c.in-Some.is c.in_ok-ty.ensures) c.in_ok-types.types c.in_ok-types.ensures
