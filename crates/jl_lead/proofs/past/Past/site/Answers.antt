use Rattle.std.proofs.Common.{◌∙◌, ap, sym, subst, ◌≤◌}
use Rattle.jl_calculus.specs.declared.history.Change.TheVariants as Ch
use Rattle.jl_calculus.specs.World.{site_of, world_of}
use Rattle.jl_lead.proofs.KnownFacts.{site_here}
use Rattle.jl_lead.proofs.past.Past.site.Goals as goal

pub returns-in-Def : goal.returns-in-Def
returns-in-Def c =
    let d = c.self.inside in
    let up = subst (λ v. c.args.definition ≤ world_of v.1) (sym c.self.view_is) c.requires.1 in
    site_here d.changes.0 d.changes.1 d.events.items d.tasks d.ends.items c.self.invariant c.args.definition c.requires.0 up c.all.result.now c.all.ensures (Ch.Def c.in-Def.site) _ c.in-Def.is
    ∙ ap (λ v. site_of v.1 c.args.definition) c.self.view_is

pub returns-in-Del : goal.returns-in-Del
returns-in-Del c =
    let d = c.self.inside in
    let up = subst (λ v. c.args.definition ≤ world_of v.1) (sym c.self.view_is) c.requires.1 in
    site_here d.changes.0 d.changes.1 d.events.items d.tasks d.ends.items c.self.invariant c.args.definition c.requires.0 up c.all.result.now c.all.ensures (Ch.Del c.in-Del.field-0) _ c.in-Del.is
    ∙ ap (λ v. site_of v.1 c.args.definition) c.self.view_is
