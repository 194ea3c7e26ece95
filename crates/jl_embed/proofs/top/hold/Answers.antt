use Rattle.std.proofs.Common.{refl, length}
use Rattle.jl_embed.specs.Sessions.{ending}
use Rattle.jl_embed.proofs.SessionLemmas.{told_fault, refused_memory}
use Rattle.jl_embed.proofs.top.hold.Goals as goal

pub returns-in-Ok-Err-clause-held : goal.returns-in-Ok-Err-clause-held
returns-in-Ok-Err-clause-held g c =
    told_fault (length c.args.hosts.now.list.items) g.H.Relation.allows _ _ _ c.args.script.now c.args.requests.now (ending c.unopened.result) c.in-Ok-Err.line c.as_slice.result.now c.tell.result
    c.unopened.ensures (rw c.in-Ok-Err.field-0-is at c.in-Ok-Err.ensures) c.as_slice.ensures c.tell.ensures.written

pub returns-in-Err-clause-held : goal.returns-in-Err-clause-held
returns-in-Err-clause-held g c = refused_memory (length c.args.hosts.now.list.items) g.H.Relation.allows _ _ _ c.args.script.now c.args.requests.now (ending c.unopened-in-Err.result) c.unopened-in-Err.ensures refl
