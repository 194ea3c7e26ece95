use Rattle.std.proofs.Common.{◌≡◌, ◌∙◌, length, arith}
use Rattle.jl_embed.specs.Replies.{seen}
use Rattle.jl_embed.proofs.ReplyLemmas.{continues, stops, finishes}
use Rattle.jl_embed.proofs.SessionLemmas.{empty_list}
use Rattle.jl_embed.proofs.serving.serve.Goals as goal

pub returns-then-status-ne0-clause-served : goal.returns-then-status-ne0-clause-served
returns-then-status-ne0-clause-served g c =
    stops (length c.args.hosts.now.list.items) g.H.Relation.allows (seen c.args.state.now) (seen c.loop-rest.state) (seen c.serve_line-status.new.state) c.args.requests.now c.loop-rest.rest.now c.first_line.result.0.now c.first_line.result.1.now
    (g.K.Sink.written c.args.sink.now) (g.K.Sink.written c.loop-rest.sink) (g.K.Sink.written c.serve_line-status.new.sink) (g.K.Sink.faults c.args.sink.now) (g.K.Sink.faults c.loop-rest.sink) (g.K.Sink.faults c.serve_line-status.new.sink) c.serve_line-status.result
    c.loop-rest.invariant.so_far c.first_line.ensures.lines c.loop-rest.invariant.quiet c.serve_line-status.ensures.served (λ e. absurd (omega (arith, e, c.if-status-ne0.true)))

pub loop-rest-preserved : goal.loop-rest-preserved
loop-rest-preserved g c =
    let fine : c.serve_line-status.result ≡ 0 = omega (arith, c.if-status-ne0.false) in
    record {
      quiet = c.serve_line-status.ensures.quiet (λ e. absurd (omega (arith, e, fine))) ∙ c.loop-rest.invariant.quiet;
      so_far =
          continues (length c.args.hosts.now.list.items) g.H.Relation.allows (seen c.args.state.now) (seen c.loop-rest.state) (seen c.serve_line-status.new.state) c.args.requests.now c.loop-rest.rest.now c.first_line.result.0.now c.first_line.result.1.now
          (g.K.Sink.written c.args.sink.now) (g.K.Sink.written c.loop-rest.sink) (g.K.Sink.written c.serve_line-status.new.sink) (g.K.Sink.faults c.args.sink.now) c.serve_line-status.result _
          c.loop-rest.invariant.so_far c.first_line.ensures.lines c.serve_line-status.ensures.served fine;
    }

pub returns-clause-served : goal.returns-clause-served
returns-clause-served g c =
    finishes (length c.args.hosts.now.list.items) g.H.Relation.allows (seen c.args.state.now) (seen c.loop-rest.state) c.args.requests.now c.loop-rest.rest.now (g.K.Sink.written c.args.sink.now) (g.K.Sink.written c.loop-rest.sink) (g.K.Sink.faults c.args.sink.now) (g.K.Sink.faults c.loop-rest.sink)
    c.loop-rest.invariant.so_far (empty_list c.loop-rest.rest.now (grind (arith, c.loop-rest-test.false, c.is_empty.ensures)))
