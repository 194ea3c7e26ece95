use Rattle.std.proofs.Common.{◌∙◌, ap, sym, subst, ℕ, ℤ, length}
use Rattle.std.specs.Int.{w64}
use Rattle.std.proofs.lemmas.Int.{to_z-of_z}
use Rattle.jl_embed.specs.Requests.{asked_of, request_of}
use Rattle.jl_embed.specs.Replies.{seen, to_add, to_call, IsCalled}
use Rattle.jl_embed.proofs.ReplyLemmas.{asked_small, was_bad}
use Rattle.jl_embed.proofs.state.State.reply.Goals as goal

pub ask-c-requires-clause-number : goal.ask-c-requires-clause-number
ask-c-requires-clause-number g c =
    let is = sym (c.read_request.ensures ∙ ap (λ (n : ℕ). request_of n c.args.asked.now) c.count.ensures) in
    asked_small (length c.args.hosts.now.list.items) c.args.asked.now c.in-Call.name.now c.in-Call.question.method c.in-Call.question.a c.in-Call.question.b (is ∙ ap asked_of c.in-Call.is)

pub returns-in_ok-reply-in-Bad-clause-done : goal.returns-in_ok-reply-in-Bad-clause-done
returns-in_ok-reply-in-Bad-clause-done g c =
    let is = sym (c.read_request.ensures ∙ ap (λ (n : ℕ). request_of n c.args.asked.now) c.count.ensures) in
    was_bad (length c.args.hosts.now.list.items) g.H.Relation.allows (seen c.args.self.now) c.args.asked.now c.in_ok-reply-in-Bad.reply (is ∙ ap asked_of c.in-Bad.is) c.in_ok-reply-in-Bad.ensures

pub returns-in_ok-reply-in-Add-clause-done : goal.returns-in_ok-reply-in-Add-clause-done
returns-in_ok-reply-in-Add-clause-done g c =
    let is = sym (c.read_request.ensures ∙ ap (λ (n : ℕ). request_of n c.args.asked.now) c.count.ensures) in
    to_add c.in-Add.more.now c.in_ok-reply-in-Add.reply (seen c.add.new.self) (is ∙ ap asked_of c.in-Add.is) c.in_ok-reply-in-Add.ensures.done

pub returns-in_ok-reply-in-Call-clause-done : goal.returns-in_ok-reply-in-Call-clause-done
returns-in_ok-reply-in-Call-clause-done g c =
    let is = sym (c.read_request.ensures ∙ ap (λ (n : ℕ). request_of n c.args.asked.now) c.count.ensures) in
    to_call c.in-Call.name.now c.in_ok-reply-in-Call.reply c.in-Call.question.method c.in-Call.question.a c.in-Call.question.b c.ask-c.result (seen c.call.new.self) (is ∙ ap asked_of c.in-Call.is) c.ask-c.ensures
    (subst (λ (z : ℤ). IsCalled (seen c.args.self.now) c.in-Call.name.now z (seen c.call.new.self) c.in_ok-reply-in-Call.reply)
    (to_z-of_z w64 c.ask-c.result (record { sfits = c.ask-c.type_inv })) c.in_ok-reply-in-Call.ensures.done)
