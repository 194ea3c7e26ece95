use Rattle.std.proofs.Common.{◌≡◌, ◌∙◌, sym, subst, ap, false, ℤ, Some}
use Rattle.std.specs.Int.{w64}
use Rattle.std.proofs.lemmas.Int.{to_z-of_z}
use Rattle.jl_embed.specs.Requests.{has_plus, signed_in}
use Rattle.jl_embed.proofs.NumberLemmas.{signed_other, signed_failed, signed_fits, signed_is}
use Rattle.jl_embed.proofs.numbers.signed.Goals as goal

pub returns-in_default : goal.returns-in_default
returns-in_default c = signed_other c.args.text.now c.in_default.ensures.cases.0

pub returns-in_default-parse : goal.returns-in_default-parse
returns-in_default-parse c =
    let same = c.in-Ok.ensures.cases.0 in
    let plus : has_plus c.in-Ok.text.now ≡ false = subst (λ t. has_plus t ≡ false) (sym same) (sym c.has_plus.ensures ∙ c.if-has_plus.false) in
    signed_failed c.in-Ok.text.now c.parse.result c.in_default-parse.field-0 plus c.parse.ensures.value.0 c.in_default-parse.is ∙ ap signed_in same

pub returns : goal.returns
returns c =
    let same = c.in-Ok.ensures.cases.0 in
    let plus : has_plus c.in-Ok.text.now ≡ false = subst (λ t. has_plus t ≡ false) (sym same) (sym c.has_plus.ensures ∙ c.if-has_plus.false) in
    let fits = signed_fits c.in-Ok.text.now c.parse.result c.in-Ok-parse.number c.parse.ensures.value.0 c.in-Ok-parse.is in
    ap (λ (z : ℤ). Some z) (to_z-of_z w64 c.in-Ok-parse.number fits) ∙ signed_is c.in-Ok.text.now c.parse.result c.in-Ok-parse.number plus c.parse.ensures.value.0 c.in-Ok-parse.is ∙ ap signed_in same
