use Rattle.std.proofs.Common.{sym, ◌∙◌, arith, ap}
use Rattle.jl_world.specs.Views.{book_of}
use Rattle.jl_world.specs.declared.view.View.TheVariants.{Book}
use Rattle.jl_world.proofs.Passing.{takes_as, checks_as}
use Rattle.jl_world.proofs.world.World.end.Goals as goal

pub join_seat-requires : goal.join_seat-requires
join_seat-requires g c =
    let i = c.book.invariant in
    let j = c.seat.invariant in
    (i.0 ∙ sym c.args.self.now.named.0, j.0 ∙ sym c.args.self.now.named.0, ap (λ m. m.1) j.1, omega (arith, c.args.self.now.sized, c.args.self.now.places), takes_as _ _ _ _ _ i.1 j.1)

pub load-requires : goal.load-requires
load-requires g c =
    let i = c.book.invariant in
    let s = c.join_seat.ensures in
    (s.0 ∙ i.0 ∙ sym c.args.self.now.named.0, omega (arith, c.args.self.now.sized, c.args.self.now.places), checks_as _ _ _ _ _ c.args.self.now.named.1 (s.2 ∙ (λ k. (Book (book_of (sym s.2 k).0), ap (λ m. m.1) i.1 k))))
