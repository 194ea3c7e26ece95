use Rattle.std.proofs.Common.{ap, arith, refl}
use Rattle.jl_calculus.specs.World.{world_of}
use Rattle.jl_world.proofs.Bounds.{few_worlds}
use Rattle.jl_book.proofs.book.Book.define.Goals as goal

pub returns-then-worlds-ge-MOST_WORLDS-clause-full : goal.returns-then-worlds-ge-MOST_WORLDS-clause-full
returns-then-worlds-ge-MOST_WORLDS-clause-full g c =
    let P = g.N.Naming.about.program.value in
    let h = c.self.invariant in
    let es = c.self.inside.seat.events in
    (λ q. omega (arith, c.worlds.ensures P es h.filters, few_worlds P es h.book.legal.stand, c.if-worlds-ge-MOST_WORLDS.true, ap world_of c.self.view_is), λ q. refl)
