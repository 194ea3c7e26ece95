use Rattle.std.proofs.Common.{arith}
use Rattle.jl_methods.proofs.RoomLemmas.{write_put, length_items}
use Rattle.jl_causes.proofs.lists.Lists.put.Goals as goal

pub returns : goal.returns
returns c =
    let vs = c.args.self.now.lists.items in
    write_put vs c.args.number c.args.item c.index_mut.result.now c.push.new.self (omega (arith, c.requires, length_items vs)) c.index_mut.ensures.value c.in_ok-push.ensures.items
