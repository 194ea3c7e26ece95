use Rattle.std.proofs.Common.{sym}
use Rattle.std.proofs.Common.{arith}
use Rattle.jl_model.proofs.CountLemmas.{nodes-at}
use Rattle.jl_types.proofs.ExpandLemmas.{plain_alts}
use Rattle.jl_types.proofs.expand.+expand.Goals as goal

pub expand-returns-in_ok-push-in_default : goal.expand-returns-in_ok-push-in_default
expand-returns-in_ok-push-in_default t c =
    rw (c.in_ok-push-in_default.ensures.items, c.new-one.ensures.items, c.in_ok-copy-in_default.ensures) (sym (plain_alts c.args.ty.now c.in_default.not-Union c.in_default.not-Tuple))

pub expand_all-expand-requires : goal.expand_all-expand-requires
expand_all-expand-requires t c = let s = nodes-at c.args.members.now c.loop-member.member-index c.member-item.result c.loop-member-test.true c.member-item.is in (omega arith, tt)
