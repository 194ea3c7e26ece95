use Rattle.std.proofs.Common.{◌∙◌, ap, arith, length}
use Rattle.jl_calculus.specs.World.{world_of}
use Rattle.jl_lead.proofs.KnownFacts.{changes_count}
use Rattle.jl_lead.proofs.past.Past.world.Goals as goal

pub overflow_cast-result : goal.overflow_cast-result
overflow_cast-result c =
    let d = c.self.inside in
    let h = c.self.invariant in
    let w = h.worlds in
    let e = ap length c.all.ensures ∙ changes_count d.changes.0 d.changes.1 d.events.items d.tasks d.ends.items c.self.invariant in
    omega (arith, e, w)

pub returns-clause-exact : goal.returns-clause-exact
returns-clause-exact c =
    let d = c.self.inside in
    ap length c.all.ensures ∙ changes_count d.changes.0 d.changes.1 d.events.items d.tasks d.ends.items c.self.invariant ∙ ap (λ v. world_of v.1) c.self.view_is

pub returns-clause-most : goal.returns-clause-most
returns-clause-most c =
    let d = c.self.inside in
    let h = c.self.invariant in
    let w = h.worlds in
    let e = ap length c.all.ensures ∙ changes_count d.changes.0 d.changes.1 d.events.items d.tasks d.ends.items c.self.invariant in
    omega (arith, e, w)
