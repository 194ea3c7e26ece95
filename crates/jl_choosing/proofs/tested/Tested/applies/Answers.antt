use Rattle.std.proofs.Common.{◌∙◌, ◌≡◌, ap, sym, subst, arith, get_or, false, IsTrue, None, Some}
use Rattle.std.proofs.lemmas.List.{length-set}
use Rattle.jl_calculus.specs.Definitions.{AppliesTo}
use Rattle.jl_choosing.proofs.TestedLemmas.{answer_yes, answer_no, answer_is, right_put}
use Rattle.jl_choosing.proofs.tested.Tested.applies.Goals as goal

pub returns-in-Some-clause-yes : goal.returns-in-Some-clause-yes
returns-in-Some-clause-yes c =
    answer_yes c.args.ready.now c.args.self.now.types c.args.def c.in-Some.yes
    (c.requires.tested.right c.args.def.site c.in-Some.yes (ap (λ xs. get_or xs c.args.def.site None) (sym c.as_slice.ensures.value) ∙ sym c.answer_of.ensures ∙ c.in-Some.is))

pub returns-in-Some-clause-none : goal.returns-in-Some-clause-none
returns-in-Some-clause-none c =
    answer_no c.args.ready.now c.args.self.now.types c.args.def c.in-Some.yes
    (c.requires.tested.right c.args.def.site c.in-Some.yes (ap (λ xs. get_or xs c.args.def.site None) (sym c.as_slice.ensures.value) ∙ sym c.answer_of.ensures ∙ c.in-Some.is))

pub returns-clause-yes : goal.returns-clause-yes
returns-clause-yes c =
    let P = c.args.ready.now in
    subst (λ ts. IsTrue c.in_ok-yes.yes → AppliesTo P ts c.args.def) c.as_slice-2.ensures c.in_ok-yes.ensures.yes

pub returns-clause-none : goal.returns-clause-none
returns-clause-none c =
    let P = c.args.ready.now in
    subst (λ ts. c.in_ok-yes.yes ≡ false → AppliesTo P ts c.args.def → ⊥) c.as_slice-2.ensures c.in_ok-yes.ensures.none

pub returns-clause-tested : goal.returns-clause-tested
returns-clause-tested c =
    let P = c.args.ready.now in
    let old = c.args.self.now in
    let d = c.args.def in
    let said = c.in_ok-yes.yes in
    let yes = subst (λ ts. IsTrue said → AppliesTo P ts d) c.as_slice-2.ensures c.in_ok-yes.ensures.yes in
    let none = subst (λ ts. said ≡ false → AppliesTo P ts d → ⊥) c.as_slice-2.ensures c.in_ok-yes.ensures.none in record {
      many = length-set old.answers.items d.site (Some said) ∙ c.requires.tested.many;
      right = right_put P old.types old.answers.items d.site said c.requires.tested.right (answer_is P old.types d said yes none) (omega (arith, c.requires.site, c.requires.tested.many));
    }
