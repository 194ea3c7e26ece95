use Rattle.std.proofs.Common.{◌∙◌, sym, ap, List}
use Rattle.jl_model.specs.declared.limits.TheConstants.{MOST_ARGUMENTS, MOST_TYPE_NODES}
use Rattle.jl_model.specs.declared.ty.Decl.{Decl}
use Rattle.std.proofs.lemmas.Result.{IfOk-weaker}
use Rattle.jl_causes.specs.KeyTypes.{AreFound, AreTaken}
use Rattle.jl_causes.specs.KeyTexts.{names_of, tuple_in}
use Rattle.jl_causes.proofs.KeptLemmas.{read_none, read_some}
use Rattle.jl_causes.proofs.key_types.read_types.Goals as goal

pub returns-in_default : goal.returns-in_default
returns-in_default c =
    let read = λ (ds : List Decl). tuple_in (names_of ds) MOST_ARGUMENTS MOST_TYPE_NODES c.args.text.now in
    read_none c.args.ready.now c.args.text.now c.valid.ensures (sym (ap read c.table.ensures) ∙ sym c.in_ok-types.ensures ∙ c.in_default.is)

pub returns : goal.returns
returns c =
    let P = c.args.ready.now in
    let text = c.args.text.now in
    let read = λ (ds : List Decl). tuple_in (names_of ds) MOST_ARGUMENTS MOST_TYPE_NODES text in
    IfOk-weaker c.take_types.result (AreTaken P text c.in-Some.types) (AreFound P text)
    (λ found taken. read_some P text c.valid.ensures c.in-Some.types found (sym (ap read c.table.ensures) ∙ sym c.in_ok-types.ensures ∙ c.in-Some.is) taken) c.take_types.ensures
