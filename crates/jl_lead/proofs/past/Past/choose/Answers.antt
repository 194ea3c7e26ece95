use Rattle.std.proofs.Common.{ap, subst, take}
use Rattle.jl_calculus.specs.World.{Selects}
use Rattle.jl_lead.proofs.past.Past.choose.Goals as goal

pub returns-clause-choice : goal.returns-clause-choice
returns-clause-choice c =
    let past = c.self.inside in
    subst (λ v. Selects v.0 v.1 c.args.key.now.function c.args.key.now.types c.args.world c.in_ok-choice.choice) c.self.view_is
    (c.in_ok-choice.ensures.choice past.events.items (ap (take c.args.world) c.self.invariant.changes_are))
