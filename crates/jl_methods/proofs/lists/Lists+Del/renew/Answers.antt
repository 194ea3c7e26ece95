use Rattle.jl_methods.specs.Latest.{renewed, place_number}
use Rattle.jl_methods.proofs.RoomLemmas.{write_change}
use Rattle.jl_methods.proofs.lists.Lists+Del.renew.Goals as goal

pub returns : goal.returns
returns c =
    write_change (λ ds. renewed place_number ds c.args.del) c.args.self.now.lists.items c.args.number c.index_mut.result.now c.renew_del.new.latest c.requires.known c.index_mut.ensures.value c.renew_del.ensures
