use Rattle.std.proofs.Common.{◌≡◌, ◌∙◌, IfOk, None, cond, ap, subst, sym}
use Rattle.jl_history.specs.Fields.{text_of}
use Rattle.jl_history.proofs.QuoteLemmas.{output_is}
use Rattle.jl_history.proofs.texts.output.Goals as goal

pub returns-then-is_whole : goal.returns-then-is_whole
returns-then-is_whole c =
    let read = output_is c.args.text.now c.in-Some.rest.now c.new-out.result c.append_unquoted.new.out c.in_ok-is_whole.is_whole c.in-Some.ensures c.new-out.ensures c.in_ok-is_whole.ensures in
    let all = read ∙ ap (λ t. cond t (text_of c.append_unquoted.new.out) None) c.if-is_whole.true in
    subst (λ z. IfOk c.text_of.result (λ o. o ≡ z)) (sym all) c.text_of.ensures

pub returns-else-is_whole : goal.returns-else-is_whole
returns-else-is_whole c =
    let read = output_is c.args.text.now c.in-Some.rest.now c.new-out.result c.append_unquoted.new.out c.in_ok-is_whole.is_whole c.in-Some.ensures c.new-out.ensures c.in_ok-is_whole.ensures in
    sym (read ∙ ap (λ t. cond t (text_of c.append_unquoted.new.out) None) c.if-is_whole.false)
