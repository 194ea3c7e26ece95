use Rattle.std.proofs.Common.{◌∙◌, sym, refl}
use Rattle.jl_causes.proofs.ReadLemmas.{word_next, word_ends, word_whole}
use Rattle.jl_causes.proofs.type_text.split_word.Goals as goal

pub loop-end-init : goal.loop-end-init
loop-end-init c = refl

pub returns-then-is_mark : goal.returns-then-is_mark
returns-then-is_mark c =
    (λ i. (c.split_at.ensures.front i, c.split_at.ensures.back i))
    ∙ word_ends c.args.text.now c.loop-end.end _ c.loop-end-test.true refl (sym c.is_mark.ensures ∙ c.if-is_mark.true) c.loop-end.invariant

pub loop-end-preserved : goal.loop-end-preserved
loop-end-preserved c = word_next c.args.text.now c.loop-end.end _ c.loop-end-test.true refl (sym c.is_mark.ensures ∙ c.if-is_mark.false) c.loop-end.invariant

pub returns : goal.returns
returns c = word_whole c.args.text.now c.loop-end.end c.loop-end-test.false c.loop-end.invariant
