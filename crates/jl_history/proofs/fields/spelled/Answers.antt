use Rattle.std.proofs.Common.{◌≡◌, ◌∙◌, sym, subst, false}
use Rattle.jl_history.specs.Fields.{is_padded}
use Rattle.jl_history.proofs.NumberLemmas.{padded_none, not_padded, other_none, failed_none, parsed_is}
use Rattle.jl_history.proofs.fields.spelled.Goals as goal

pub returns-then-is_padded : goal.returns-then-is_padded
returns-then-is_padded c = padded_none c.args.text.now (sym c.is_padded.ensures ∙ c.if-is_padded.true)

pub returns-in_default : goal.returns-in_default
returns-in_default c = other_none c.args.text.now c.in_default.ensures.cases.0

pub returns-in_default-parse : goal.returns-in_default-parse
returns-in_default-parse c = λ n m e. failed_none c.in-Ok.text.now c.parse.result c.in_default-parse.field-0 c.parse.ensures.value.0 c.in_default-parse.is n m (c.in-Ok.ensures.cases.0 ∙ e)

pub returns : goal.returns
returns c =
    let same = c.in-Ok.ensures.cases.0 in
    let plain = subst (λ z. is_padded z ≡ false) (sym same) (sym c.is_padded.ensures ∙ c.if-is_padded.false) in
    let read = parsed_is c.in-Ok.text.now c.in-Ok-parse.number c.parse.result c.parse.ensures.value.0 c.in-Ok-parse.is (not_padded c.in-Ok.text.now plain) in
    (read.0, sym same ∙ read.1)
