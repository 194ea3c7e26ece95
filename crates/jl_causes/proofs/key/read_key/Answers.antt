use Rattle.std.proofs.Common.{◌∙◌, sym, ap, subst}
use Rattle.jl_program.specs.declared.tree.Program.{Program}
use Rattle.jl_causes.specs.KeyTypes.{AreFound}
use Rattle.jl_causes.specs.KeyTexts.{place_of}
use Rattle.jl_causes.proofs.NamedLemmas.{no_function, no_types, named}
use Rattle.jl_causes.proofs.key.read_key.Goals as goal

pub returns-in_default : goal.returns-in_default
returns-in_default c =
    let place = λ (P : Program). place_of P.functions c.args.function.now in
    no_function c.args.ready.now c.valid.ensures c.args.function.now c.args.tuple.now (sym (ap place c.program.ensures) ∙ sym c.in_ok-function.ensures ∙ c.in_default.is)

pub returns-in_default-2 : goal.returns-in_default-2
returns-in_default-2 c =
    no_types c.args.ready.now c.valid.ensures c.args.function.now c.args.tuple.now (subst (AreFound c.args.ready.now c.args.tuple.now) c.in_default-2.is c.in_ok-types.ensures)

pub returns : goal.returns
returns c =
    let place = λ (P : Program). place_of P.functions c.args.function.now in
    named c.args.ready.now c.valid.ensures c.args.function.now c.args.tuple.now c.in-Some.function c.in-Some-2.types
    (sym (ap place c.program.ensures) ∙ sym c.in_ok-function.ensures ∙ c.in-Some.is) (subst (AreFound c.args.ready.now c.args.tuple.now) c.in-Some-2.is c.in_ok-types.ensures)
