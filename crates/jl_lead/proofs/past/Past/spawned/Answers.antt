use Rattle.std.proofs.Common.{◌∙◌, ap, subst}
use Rattle.jl_lead.specs.Known.{IsStartAmong}
use Rattle.jl_lead.proofs.KnownFacts.{spawn_got, is_spawn_of}
use Rattle.jl_lead.proofs.past.Past.spawned.Goals as goal

pub returns-in-Some-Spawn-clause-there : goal.returns-in-Some-Spawn-clause-there
returns-in-Some-Spawn-clause-there c =
    let k = c.in-Some-Spawn in
    let at = k.ensures.lookup in
    is_spawn_of c.args.self.now.1 c.args.place k.field-0-0 k.field-0-1 k.start
    (spawn_got c.deref.result.now c.args.self.now.1 c.args.place k.field-0.now k.field-0-0 k.field-0-1 k.start (c.deref.ensures.value ∙ ap (λ v. v.1) c.self.view_is) at.3.0 at.1 k.field-0-is)

pub returns-in-Some-Spawn-clause-among : goal.returns-in-Some-Spawn-clause-among
returns-in-Some-Spawn-clause-among c =
    let d = c.self.inside in
    let h = c.self.invariant in
    let sound = h.sound in
    let k = c.in-Some-Spawn in
    let at = k.ensures.lookup in
    subst (λ v. IsStartAmong v.0 v.1 k.start) c.self.view_is
    (sound.starts c.args.place k.field-0-0 k.field-0-1 k.start (spawn_got c.deref.result.now d.events.items c.args.place k.field-0.now k.field-0-0 k.field-0-1 k.start c.deref.ensures.value at.3.0 at.1 k.field-0-is))
