use Rattle.std.proofs.Common.{◌≡◌, subst, sym}
use Rattle.jl_history.specs.Fields.{in_front, unquoted}
use Rattle.jl_history.proofs.QuoteLemmas.{byte_more}
use Rattle.jl_history.proofs.texts.append_unquoted.Goals as goal

pub loop-byte-preserved : goal.loop-byte-preserved
loop-byte-preserved c =
    let due = in_front c.args.out.now (unquoted c.args.text.now) in
    subst (λ z. in_front z (unquoted c.in-Some.after.now) ≡ due) (sym c.in_ok-push.ensures)
    (byte_more c.loop-byte.out c.loop-byte.rest.now c.in-Some.after.now c.in-Some.byte due c.in-Some.ensures c.loop-byte.invariant)
