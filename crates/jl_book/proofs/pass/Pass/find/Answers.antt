use Rattle.std.proofs.Common.{sym, subst}
use Rattle.jl_calculus.specs.Learnt.{IsUncovered}
use Rattle.jl_book.specs.Passes.{IsPass}
use Rattle.jl_book.proofs.Chosen.{hit_chosen}
use Rattle.jl_book.proofs.Starts.{pass_met}
use Rattle.jl_book.proofs.pass.Pass.find.Goals as goal

pub invariant_of-self : goal.invariant_of-self
invariant_of-self g c =
    subst (IsPass g.N.Naming.about c.self.inside.task) (sym c.find.ensures.same)
    (pass_met g.N.Naming.about c.self.inside.task c.self.inside.seat c.self.invariant c.find.new.seat.seen c.find.ensures.seen)

pub returns-clause-found : goal.returns-clause-found
returns-clause-found g c =
    hit_chosen g.N.Naming.about.program.value c.self.invariant.valid c.find.new.seat.seen c.args.key c.args.world c.find.result (λ m. IsUncovered g.N.Naming.about.program.value c.find.new.seat.seen c.args.key c.args.world) c.find.ensures.found
