use Rattle.std.proofs.Common.{Ok}
use Rattle.jl_machine.proofs.Stepping.{lent_begun, lent_given, lent_left, lent_pieces}
use Rattle.jl_machine.proofs.task.Task.turn.Goals as goal

pub returns-in_ok-begin-in-Eval-clause-goes : goal.returns-in_ok-begin-in-Eval-clause-goes
returns-in_ok-begin-in-Eval-clause-goes g c =
    rw c.in-Eval.is (lent_begun (Ok c.in_ok-begin-in-Eval.field-0) _ c.args.self.now c.in-Eval.expr.now c.begin.new.now c.in_ok-begin-in-Eval.ensures (rw c.in-Eval.is at c.requires.fits))

pub returns-in_ok-give-in-Give-clause-goes : goal.returns-in_ok-give-in-Give-clause-goes
returns-in_ok-give-in-Give-clause-goes g c =
    rw c.in-Give.is (lent_given (Ok c.in_ok-give-in-Give.field-0) _ c.args.self.now c.args.ready.now _ c.give.new.now c.requires.program c.in_ok-give-in-Give.ensures (rw c.in-Give.is at c.requires.fits))

pub returns-in-Leave-clause-goes : goal.returns-in-Leave-clause-goes
returns-in-Leave-clause-goes g c = rw c.in-Leave.is (lent_left c.leave.result _ c.args.self.now _ c.leave.new.now c.leave.ensures (rw c.in-Leave.is at c.requires.fits))

pub returns-in_ok-go_pieces-in-Pieces-clause-goes : goal.returns-in_ok-go_pieces-in-Pieces-clause-goes
returns-in_ok-go_pieces-in-Pieces-clause-goes g c =
    rw c.in-Pieces.is (lent_pieces (Ok c.in_ok-go_pieces-in-Pieces.field-0) _ c.args.self.now _ c.in-Pieces.pieces.now c.in-Pieces.line c.go_pieces.new.now c.in_ok-go_pieces-in-Pieces.ensures (rw c.in-Pieces.is at c.requires.fits))
