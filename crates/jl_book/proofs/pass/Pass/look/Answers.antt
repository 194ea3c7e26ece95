use Rattle.std.proofs.Common.{sym, subst}
use Rattle.jl_book.specs.Passes.{IsPass}
use Rattle.jl_book.proofs.Starts.{pass_looked}
use Rattle.jl_book.proofs.pass.Pass.look.Goals as goal

pub invariant_of-self : goal.invariant_of-self
invariant_of-self g c =
    subst (IsPass g.N.Naming.about c.self.inside.task) (sym c.look.ensures.same)
    (pass_looked g.N.Naming.about c.self.inside.task c.self.inside.seat c.self.invariant c.look.new.seat.seen c.look.ensures.seen.0)
