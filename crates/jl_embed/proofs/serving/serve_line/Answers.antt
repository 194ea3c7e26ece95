use Rattle.std.proofs.Common.{length}
use Rattle.jl_embed.specs.Replies.{seen}
use Rattle.jl_embed.proofs.ReplyLemmas.{line_served, line_unserved}
use Rattle.jl_embed.proofs.serving.serve_line.Goals as goal

pub returns-in-Ok-clause-served : goal.returns-in-Ok-clause-served
returns-in-Ok-clause-served g c =
    line_served (length c.args.hosts.now.list.items) g.H.Relation.allows (seen c.args.state.now) (seen c.reply.new.self) c.args.line.now c.in-Ok.reply c.as_slice.result.now _ _ _ _ c.in-Ok.ensures.done c.as_slice.ensures c.tell.ensures.written

pub returns-in-Err-clause-served : goal.returns-in-Err-clause-served
returns-in-Err-clause-served g c = line_unserved (length c.args.hosts.now.list.items) g.H.Relation.allows (seen c.args.state.now) (seen c.reply.new.self) c.args.line.now _ _ c.in-Err.ensures.kept
