use Rattle.jl_book.proofs.Seating.{still_cut}
use Rattle.jl_book.proofs.seats.publish.Goals as goal

pub publish-requires-clause-cut : goal.publish-requires-clause-cut
publish-requires-clause-cut g c = still_cut _ c.args.book.now _ c.args.seat.now c.args.change c.take_in.ensures.book c.requires.cut
