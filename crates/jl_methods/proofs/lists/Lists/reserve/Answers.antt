use Rattle.std.proofs.Common.{arith}
use Rattle.jl_methods.proofs.RoomLemmas.{write_same, length_items}
use Rattle.jl_methods.proofs.lists.Lists.reserve.Goals as goal

pub returns-in_err-reserve-clause-kept : goal.returns-in_err-reserve-clause-kept
returns-in_err-reserve-clause-kept g c =
    let vs = c.args.self.now.lists.items in
    write_same vs c.args.number c.index_mut.result.now c.reserve.new.self (omega (arith, c.requires, length_items vs)) c.index_mut.ensures.value c.reserve.ensures.items

pub returns-clause-kept : goal.returns-clause-kept
returns-clause-kept g c =
    let vs = c.args.self.now.lists.items in
    write_same vs c.args.number c.index_mut.result.now c.reserve.new.self (omega (arith, c.requires, length_items vs)) c.index_mut.ensures.value c.reserve.ensures.items
