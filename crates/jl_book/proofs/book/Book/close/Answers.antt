use Rattle.std.proofs.Common.{◌∙◌, ap}
use Rattle.jl_book.specs.Tasks.{unfinished_of}
use Rattle.jl_book.proofs.Pushing.{legal_closed}
use Rattle.jl_book.proofs.Shares.{all_gathered}
use Rattle.jl_book.proofs.book.Book.close.Goals as goal

pub returns-clause-legal : goal.returns-clause-legal
returns-clause-legal g c =
    legal_closed g.N.Naming.about c.self.inside.seat.events c.in_ok-events.events c.self.invariant.book (ap unfinished_of c.self.view_is ∙ c.requires) (c.in_ok-events.ensures ∙ c.self.invariant.keeps)

pub returns-clause-gathered : goal.returns-clause-gathered
returns-clause-gathered g c =
    all_gathered g.N.Naming.about c.self.inside.seat.events c.in_ok-events.events c.self.invariant.book (ap unfinished_of c.self.view_is ∙ c.requires) (c.in_ok-events.ensures ∙ c.self.invariant.keeps)
