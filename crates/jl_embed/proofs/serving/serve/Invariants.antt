use Rattle.std.proofs.Common.{◌≡◌, length}
use Rattle.jl_embed.specs.Replies.{seen}
use Rattle.jl_embed.proofs.ReplyLemmas.{Continues}
use Rattle.jl_embed.proofs.serving.serve.Given as goal

-- no fault so far, and what is done with the rest is what is done with all
abbrev pub invariant-loop-rest : goal.invariant-loop-rest
invariant-loop-rest g l = record {
  quiet : g.K.Sink.faults l.sink ≡ g.K.Sink.faults l.fn.sink;
  so_far : Continues (length l.hosts.list.items) g.H.Relation.allows (seen l.fn.state) l.requests (g.K.Sink.written l.fn.sink) (g.K.Sink.faults l.fn.sink) (seen l.state) l.rest (g.K.Sink.written l.sink);
}

abbrev pub decreases-loop-rest : goal.decreases-loop-rest
decreases-loop-rest g l = length l.rest
