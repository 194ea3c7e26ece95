use Rattle.std.proofs.Common.{◌≡◌, ◌<◌, ◌≤◌, ℕ, length, sym, subst, ap, refl, None, Some, arith}
use Rattle.jl_cli.specs.Work.{most_taken, most_read}
use Rattle.jl_cli.proofs.Running.{most_small, delivered, unread, refused_memory, ended_along, too_long_due, due_along}
use Rattle.jl_cli.proofs.top.obey.Goals as goal

pub returns-in-Err-Failed-clause-ran : goal.returns-in-Err-Failed-clause-ran
returns-in-Err-Failed-clause-ran g c =
    let taken = c.in-Err-Failed.ensures.taken in
    let most : c.most_read.result ≡ most_read (Some c.args.command.now) = c.most_read.ensures in
    ended_along (Some c.args.command.now) _ _ _ _ _ _ 4 c.without_history.result.status c.without_history.result.history c.without_history.ensures
    (unread (Some c.args.command.now) _ _ _ _ _ _ taken.0 taken.2 (subst (λ (n : ℕ). length taken.0 ≤ n) most taken.1) (subst (λ (n : ℕ). 0 < n) most (omega (arith, taken.3)))
    (rw c.in-Err-Failed.field-0-is at c.in-Err-Failed.ensures.rose) refl)

pub returns-in-Err-Memory-clause-ran : goal.returns-in-Err-Memory-clause-ran
returns-in-Err-Memory-clause-ran g c =
    let taken = c.in-Err-Memory.ensures.taken in
    let most : c.most_read.result ≡ most_read (Some c.args.command.now) = c.most_read.ensures in
    ended_along (Some c.args.command.now) _ _ _ _ _ _ 6 c.without_history-in-Err-Memory.result.status c.without_history-in-Err-Memory.result.history c.without_history-in-Err-Memory.ensures
    (refused_memory (Some c.args.command.now) _ _ _ _ _ _ taken.0 taken.2 (subst (λ (n : ℕ). length taken.0 ≤ n) most taken.1) (omega (arith, taken.3, most, most_small c.args.command.now)) refl)

pub returns-then-len-most_taken-clause-ran : goal.returns-then-len-most_taken-clause-ran
returns-then-len-most_taken-clause-ran g c =
    let most : c.most_read.result ≡ most_read (Some c.args.command.now) = c.most_read.ensures in
    let within : length c.in-Ok.bytes.items ≤ most_read (Some c.args.command.now) = subst (λ (n : ℕ). length c.in-Ok.bytes.items ≤ n) most c.in-Ok.ensures.within in
    let long : most_taken (Some c.args.command.now) < length c.in-Ok.bytes.items = omega (arith, c.if-len-most_taken.true, c.len.ensures, c.in-Ok.bytes.ok.0, c.most_taken.ensures) in
    delivered (Some c.args.command.now) _ _ _ _ _ _ c.in-Ok.bytes.items c.in-Ok.ensures.gives within 3 None c.as_bytes.result.now _ _
    (λ lt. c.in-Ok.ensures.ended (subst (λ (n : ℕ). length c.in-Ok.bytes.items < n) (sym most) lt))
    (too_long_due c.args.command.now c.in-Ok.bytes.items c.as_bytes.result.now long within c.as_bytes.ensures.value)
    c.deliver.ensures.delivered

pub answer-requires-clause-limited : goal.answer-requires-clause-limited
answer-requires-clause-limited g c =
    let few : length c.in-Ok.bytes.items ≤ most_taken (Some c.args.command.now) = omega (arith, c.if-len-most_taken.false, c.len.ensures, c.in-Ok.bytes.ok.0, c.most_taken.ensures) in
    λ κs bounds. subst (λ (n : ℕ). n ≤ most_taken (Some c.args.command.now)) (ap length (sym c.as_slice.ensures.value)) few

pub returns-in-Ok-answer-clause-ran : goal.returns-in-Ok-answer-clause-ran
returns-in-Ok-answer-clause-ran g c =
    let most : c.most_read.result ≡ most_read (Some c.args.command.now) = c.most_read.ensures in
    let within : length c.in-Ok.bytes.items ≤ most_read (Some c.args.command.now) = subst (λ (n : ℕ). length c.in-Ok.bytes.items ≤ n) most c.in-Ok.ensures.within in
    delivered (Some c.args.command.now) _ _ _ _ _ _ c.in-Ok.bytes.items c.in-Ok.ensures.gives within c.in-Ok-answer.due.status c.in-Ok-answer.due.history c.as_slice-in-Ok-answer.result.now _ _
    (λ lt. c.in-Ok.ensures.ended (subst (λ (n : ℕ). length c.in-Ok.bytes.items < n) (sym most) lt))
    (due_along (Some c.args.command.now) c.as_slice.result.now c.in-Ok.bytes.items c.in-Ok-answer.due.text c.as_slice-in-Ok-answer.result.now c.in-Ok-answer.due.status c.in-Ok-answer.due.history c.as_slice.ensures.value c.as_slice-in-Ok-answer.ensures c.in-Ok-answer.ensures)
    c.deliver-in-Ok-answer.ensures.delivered

pub returns-clause-ran : goal.returns-clause-ran
returns-clause-ran g c =
    let most : c.most_read.result ≡ most_read (Some c.args.command.now) = c.most_read.ensures in
    ended_along (Some c.args.command.now) _ _ _ _ _ _ 6 c.without_history-in-Err.result.status c.without_history-in-Err.result.history c.without_history-in-Err.ensures
    (refused_memory (Some c.args.command.now) _ _ _ _ _ _ c.in-Ok.bytes.items c.in-Ok.ensures.gives (subst (λ (n : ℕ). length c.in-Ok.bytes.items ≤ n) most c.in-Ok.ensures.within)
    (omega (arith, c.if-len-most_taken.false, c.len.ensures, c.in-Ok.bytes.ok.0, c.most_taken.ensures)) refl)
