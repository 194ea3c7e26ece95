use Rattle.std.proofs.Common.{◌∙◌}
use Rattle.std.specs.Int.{w64}
use Rattle.std.proofs.lemmas.Int.{to_z-of_z}
use Rattle.jl_embed.specs.Replies.{seen, called_text, noted}
use Rattle.jl_embed.proofs.ReplyLemmas.{was_called}
use Rattle.jl_embed.proofs.state.State.call.Goals as goal

pub returns-clause-done : goal.returns-clause-done
returns-clause-done g c =
    was_called (seen c.args.self.now) c.args.name.now c.args.c c.in_ok-longer.longer c.in_ok-due.due.text c.in_ok-reply.reply c.in_ok-due.due.history (seen c.note.new.self)
    (c.in_ok-longer.ensures ∙ (λ i. called_text (c.as_slice.ensures i) c.args.name.now (to_z-of_z w64 c.args.c c.ranges.c i)))
    c.in_ok-due.ensures
    c.in_ok-reply.ensures
    (c.note.ensures ∙ (λ i. noted (record { text = c.args.self.now.text; answers = c.reserve.ensures.items i; histories = c.reserve-2.ensures.items i }) (to_z-of_z w64 c.args.c c.ranges.c i) c.in_ok-due.due.history))
