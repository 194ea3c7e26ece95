use Rattle.jl_marks.proofs.Scans.{turned}
use Rattle.jl_marks.proofs.marks.turn.Goals as goal

pub returns : goal.returns
returns c = λ ss e. turned c.args.terminal.now ss c.args.scan.now c.in_ok-over.over c.step_bracket.new.closing c.mate.result c.nearer-next.result c.marks_of.result c.push.new.self
    e c.mate.ensures c.in_ok-over.ensures.0 c.in_ok-over.ensures.1 c.nearer-next.ensures c.marks_of.ensures c.in_ok-push.ensures
