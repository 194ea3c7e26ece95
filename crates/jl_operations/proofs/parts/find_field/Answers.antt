use Rattle.std.proofs.Common.{◌∙◌, sym, ap, refl}
use Rattle.jl_program.specs.Scope.{all_types}
use Rattle.jl_calculus.specs.Operations.{field_value}
use Rattle.jl_operations.proofs.ValidLemmas.{field_given}
use Rattle.jl_operations.proofs.parts.find_field.Goals as goal

pub returns-in-Some : goal.returns-in-Some
returns-in-Some c =
    let ds = c.table.result.now in
    let name = c.as_slice.result.now in
    sym (field_given (all_types c.args.ready.now) ds name c.args.name.now c.args.value.now c.in-Some.part.now c.in-Some.part.now c.table.ensures c.as_slice.ensures
    (ap (field_value ds name) c.in-Struct.is ∙ c.in-Some.ensures) refl)
