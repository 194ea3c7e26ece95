use Rattle.std.proofs.Common.{◌≡◌, ◌∙◌, sym, ap, subst, false, IfOk, get_or}
use Rattle.jl_model.specs.Signature.{top}
use Rattle.jl_model.specs.Found.{or_type}
use Rattle.jl_match.specs.KeptRow.{row_of}
use Rattle.jl_match.proofs.ValueSteps.{plain_value}
use Rattle.jl_match.proofs.values.value_of.Goals as goal

pub returns-in-Some : goal.returns-in-Some
returns-in-Some c =
    let v = c.args.variable in
    let s = c.args.signature.now in
    let r = row_of c.args.parts.now c.args.chosen.now in
    sym (ap (λ z. or_type z (top s r v)) c.in-Some.is)
    ∙ plain_value c.args.table.now s r c.args.types.now v c.requires.row c.requires.plain c.requires.variable (get_or c.args.diagonals.now v false) (c.requires.diagonals.kinds v c.requires.variable) c.in_ok-ty.field-0 c.in_ok-ty.ensures

pub returns-in-None : goal.returns-in-None
returns-in-None c =
    let v = c.args.variable in
    let s = c.args.signature.now in
    let r = row_of c.args.parts.now c.args.chosen.now in
    let e = sym (ap (λ z. or_type z (top s r v)) c.in-None.is)
    ∙ plain_value c.args.table.now s r c.args.types.now v c.requires.row c.requires.plain c.requires.variable (get_or c.args.diagonals.now v false) (c.requires.diagonals.kinds v c.requires.variable) c.in_ok-ty.field-0 c.in_ok-ty.ensures in
    subst (λ z. IfOk c.top.result (λ t. t ≡ z)) e c.top.ensures
