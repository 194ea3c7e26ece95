use Rattle.std.proofs.Common.{refl, length}
use Rattle.jl_embed.specs.Replies.{seen}
use Rattle.jl_embed.specs.Sessions.{ending}
use Rattle.jl_embed.proofs.SessionLemmas.{refused_memory, all_served}
use Rattle.jl_embed.proofs.top.begin.Goals as goal

pub returns-in_default-clause-held : goal.returns-in_default-clause-held
returns-in_default-clause-held g c = refused_memory (length c.args.hosts.now.list.items) g.H.Relation.allows _ _ _ c.args.script.now c.args.requests.now (ending c.unopened.result) c.unopened.ensures refl

pub returns-clause-held : goal.returns-clause-held
returns-clause-held g c =
    all_served (length c.args.hosts.now.list.items) g.H.Relation.allows _ _ _ c.args.script.now c.args.requests.now (ending c.ended.result) (seen c.in-Ok.state) (seen c.serve-status.new.state) c.serve-status.result
    c.ended.ensures c.requires.program c.in-Ok.ensures c.serve-status.ensures.served
