use Rattle.std.proofs.Common.{◌≡◌, ◌∙◌, ap, sym, subst, false, ◌≤◌, length, arith}
use Rattle.jl_embed.specs.Requests.{has_plus, method_in}
use Rattle.jl_embed.proofs.NumberLemmas.{method_other, method_failed, method_is}
use Rattle.jl_embed.proofs.numbers.method.Goals as goal

pub returns-in_default : goal.returns-in_default
returns-in_default c = method_other c.args.count c.args.text.now c.in_default.ensures.cases.0

pub returns-in_default-parse : goal.returns-in_default-parse
returns-in_default-parse c =
    let same = c.in-Ok.ensures.cases.0 in
    let few : length c.in-Ok.text.now ≤ 2 = subst (λ t. length t ≤ 2) (sym same) (omega (arith, c.if-text-gt-MOST_METHOD_DIGITS.false)) in
    let plus : has_plus c.in-Ok.text.now ≡ false = subst (λ t. has_plus t ≡ false) (sym same) (sym c.has_plus.ensures ∙ c.if-has_plus.false) in
    method_failed c.args.count c.in-Ok.text.now c.parse.result c.in_default-parse.field-0 few plus c.parse.ensures.value.0 c.in_default-parse.is ∙ ap (method_in c.args.count) same

pub returns-then-number-count : goal.returns-then-number-count
returns-then-number-count c =
    let same = c.in-Ok.ensures.cases.0 in
    let few : length c.in-Ok.text.now ≤ 2 = subst (λ t. length t ≤ 2) (sym same) (omega (arith, c.if-text-gt-MOST_METHOD_DIGITS.false)) in
    let plus : has_plus c.in-Ok.text.now ≡ false = subst (λ t. has_plus t ≡ false) (sym same) (sym c.has_plus.ensures ∙ c.if-has_plus.false) in
    method_is c.args.count c.in-Ok.text.now c.parse.result c.in-Ok-parse.number few plus c.parse.ensures.value.0 c.in-Ok-parse.is c.if-number-count.true ∙ ap (method_in c.args.count) same
