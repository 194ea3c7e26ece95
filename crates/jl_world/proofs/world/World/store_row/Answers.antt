use Rattle.std.proofs.Common.{length, ap, sym, ◌∙◌, arith}
use Rattle.jl_calculus.specs.Ranges.{rows_of}
use Rattle.jl_world.proofs.Stores.{loosens_as}
use Rattle.jl_world.proofs.Wording.{row_small}
use Rattle.jl_world.proofs.world.World.store_row.Goals as goal

pub store-requires : goal.store-requires
store-requires g c =
    let i = c.book.invariant in
    let w = c.args.self.now in
    let rows = ap (λ b. length (rows_of b.events)) c.book.view_is in (
      i.0 ∙ sym w.named.0,
      omega (arith, w.sized, c.index_in_row.ensures, row_small g.N.Naming.about c.args.row c.args.word c.requires.row),
      loosens_as _ _ _ _ c.args.row c.args.word _ _ _ w.named.1 i.1 c.index_in_row.ensures (omega (arith, rows, c.requires.free)) c.requires.row,
    )
