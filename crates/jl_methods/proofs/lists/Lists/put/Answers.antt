use Rattle.jl_methods.proofs.RoomLemmas.{write_put}
use Rattle.jl_methods.proofs.lists.Lists.put.Goals as goal

pub returns-clause-put : goal.returns-clause-put
returns-clause-put g c =
    write_put c.args.self.now.lists.items c.args.number c.args.element c.index_mut.result.now c.push_reserved.new.self c.requires.known c.index_mut.ensures.value c.push_reserved.ensures.items
