use Rattle.std.proofs.Common.{true, false}
use Rattle.jl_machine.proofs.NumberLemmas.{is_called, called_moves, begun_on}
use Rattle.jl_machine.proofs.task.Task.begin_call.Goals as goal

pub returns-then-branch : goal.returns-then-branch
returns-then-branch g c =
    let t = c.args.self.now in
    let t' = c.push_call.new.self in
    called_moves _ t t' c.args.expr.now (is_called _ c.args.expr.now t t' c.in_ok-push_call.field-0 true c.if-branch.true c.in_ok-push_call.ensures) c.requires.settled c.requires.fits

pub returns : goal.returns
returns g c =
    let t = c.args.self.now in
    let t' = c.push_call.new.self in
    begun_on _ t t' c.go_parts.new.self c.args.expr.now c.requires.form.0 c.args.parts.now c.in_ok-work.work (is_called _ c.args.expr.now t t' c.in_ok-push_call.field-0 false c.if-branch.false c.in_ok-push_call.ensures)
    c.requires.form.1 c.requires.settled c.requires.fits c.in_ok-work.ensures
