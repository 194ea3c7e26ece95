use Rattle.std.proofs.Common.{sym, subst}
use Rattle.jl_reflect.specs.Asked.{TextMeans}
use Rattle.jl_reflect.proofs.FormLemmas.{found_none}
use Rattle.jl_reflect.proofs.key.find_key.Goals as goal

pub returns-in_default-2 : goal.returns-in_default-2
returns-in_default-2 c =
    let text = c.args.ty.now in
    λ key m. found_none (TextMeans c.table.result.now text) c.in_ok-types.field-0 c.in_default-2.is c.in_ok-types.ensures key.types
    (subst (λ ds. TextMeans ds text key.types) (sym c.table.ensures) m.types)
