use Rattle.std.proofs.Common.{◌∙◌, ap, subst, ℕ, List}
use Rattle.jl_work.specs.Owed.{IsFaultLine, IsProgram}
use Rattle.jl_embed.specs.Replies.{seen, with_line}
use Rattle.jl_embed.proofs.ReplyLemmas.{was_added, was_refused}
use Rattle.jl_embed.proofs.state.State.add.Goals as goal

pub returns-in-Err-clause-done : goal.returns-in-Err-clause-done
returns-in-Err-clause-done c =
    was_refused (seen c.args.self.now) c.args.more.now c.in_ok-longer.longer c.in-Err.fault
    (c.in_ok-longer.ensures ∙ ap (λ (t : List ℕ). with_line t c.args.more.now) c.as_slice.ensures)
    (subst (λ (t : List ℕ). IsFaultLine t c.in-Err.fault) c.as_slice-2.ensures (rw c.in-Err.is at c.in_ok-checked.ensures))

pub returns-in_ok-reply-in-Ok-clause-done : goal.returns-in_ok-reply-in-Ok-clause-done
returns-in_ok-reply-in-Ok-clause-done c =
    was_added (seen c.args.self.now) c.args.more.now c.in_ok-longer.longer c.in_ok-reply-in-Ok.reply (c.in_ok-longer.ensures ∙ ap (λ (t : List ℕ). with_line t c.args.more.now) c.as_slice.ensures)
    (subst (λ (t : List ℕ). IsProgram t) c.as_slice-2.ensures (rw c.in-Ok.is at c.in_ok-checked.ensures)) c.in_ok-reply-in-Ok.ensures
