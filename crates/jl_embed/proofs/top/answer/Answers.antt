use Rattle.std.proofs.Common.{length}
use Rattle.jl_embed.specs.Sessions.{ending, parted}
use Rattle.jl_embed.proofs.SessionLemmas.{told_no_session}
use Rattle.jl_embed.proofs.top.answer.Goals as goal

pub returns-in-Some-clause-parted : goal.returns-in-Some-clause-parted
returns-in-Some-clause-parted g c = parted c.in-Some.script.now c.in-Some.requests.now (ending c.hold.result) c.in-Some.ensures c.hold.ensures.held

pub returns-in-None-clause-parted : goal.returns-in-None-clause-parted
returns-in-None-clause-parted g c =
    told_no_session (length c.args.hosts.now.list.items) g.H.Relation.allows _ _ _ c.args.bytes.now c.as_bytes.result.now (ending c.unopened.result) c.tell.result c.unopened.ensures c.in-None.ensures c.as_bytes.ensures.value c.tell.ensures.written
