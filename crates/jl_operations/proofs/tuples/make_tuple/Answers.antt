use Rattle.std.proofs.Common.{subst, List}
use Rattle.jl_model.specs.declared.ty.Decl.{Decl}
use Rattle.jl_program.specs.Meaning.{datum}
use Rattle.jl_program.specs.Scope.{all_types}
use Rattle.jl_program.specs.ValidValue.{IsValid}
use Rattle.jl_operations.proofs.ValidLemmas.{tuple_given}
use Rattle.jl_operations.proofs.tuples.make_tuple.Goals as goal

pub returns-in-Ok-clause-answer : goal.returns-in-Ok-clause-answer
returns-in-Ok-clause-answer c =
    tuple_given (all_types c.args.ready.now) c.args.values.now c.in_ok-parts.parts c.in-Ok.value c.in_ok-parts.ensures c.in-Ok.ensures.made
    (subst (λ (z : List Decl). IsValid z (datum c.in-Ok.value)) c.table.ensures c.in-Ok.ensures.valid)
