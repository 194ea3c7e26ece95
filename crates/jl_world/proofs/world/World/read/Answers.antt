use Rattle.std.proofs.Common.{ap, sym, ◌∙◌, arith, subst}
use Rattle.jl_world.specs.declared.view.BookView.{BookView}
use Rattle.jl_world.specs.Tells.{HasWord, IsPlace}
use Rattle.jl_world.specs.Views.{book_of}
use Rattle.jl_world.proofs.RowLoads.{reads_as, place_low}
use Rattle.jl_world.proofs.world.World.read.Goals as goal

pub load-requires : goal.load-requires
load-requires g c =
    let i = c.book.invariant in
    let w = c.args.self.now in
    let there = subst (λ (b : BookView). IsPlace g.N.Naming.about b.events c.args.place) (sym c.book.view_is) c.requires in
    (i.0 ∙ sym w.named.0, omega (arith, w.sized, c.index.ensures, place_low g.N.Naming.about (book_of c.book.inside.seat.me.0).events c.args.place w.places i.5 there), reads_as _ _ _ _ _ _ w.named.1 i.1)

pub returns-clause-word : goal.returns-clause-word
returns-clause-word g c =
    let there = subst (λ (b : BookView). IsPlace g.N.Naming.about b.events c.args.place) (sym c.book.view_is) c.requires in
    subst (λ (b : BookView). HasWord g.N.Naming.about.program.value b.events b.cut c.args.place c.load.result) c.book.view_is
    (c.load.ensures.2.1 c.args.place c.index.ensures there)
