use Rattle.std.proofs.Common.{length, ap, sym, ◌∙◌, arith}
use Rattle.jl_calculus.specs.Ranges.{keys_of}
use Rattle.jl_calculus.specs.Words.{head_word}
use Rattle.jl_world.specs.declared.row_word.Place.TheVariants.{Head}
use Rattle.jl_world.proofs.RowLoads.{reads_as}
use Rattle.jl_world.proofs.world.World.book_head.Goals as goal

pub load-requires : goal.load-requires
load-requires g c =
    let i = c.book.invariant in
    let w = c.args.self.now in
    let keys = ap (λ b. length (keys_of b.events)) c.book.view_is in
    (i.0 ∙ sym w.named.0, omega (arith, w.sized, w.places, c.index.ensures, i.5.0, keys, c.requires), reads_as _ _ _ _ _ _ w.named.1 i.1)

pub returns-clause-head : goal.returns-clause-head
returns-clause-head g c =
    let keys = ap (λ b. length (keys_of b.events)) c.book.view_is in
    c.load.ensures.2.1 (Head c.args.key) c.index.ensures (omega (arith, c.book.invariant.5.0, keys, c.requires)) ∙ ap (λ b. head_word b.events c.args.key) c.book.view_is
