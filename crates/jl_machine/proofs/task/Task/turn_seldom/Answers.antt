use Rattle.std.proofs.Common.{Ok, refl}
use Rattle.jl_machine.proofs.Stepping.{lent_left, lent_pieces}
use Rattle.jl_machine.proofs.Moving.{alone}
use Rattle.jl_machine.proofs.task.Task.turn_seldom.Goals as goal

pub returns-in-Leave : goal.returns-in-Leave
returns-in-Leave g c = rw c.in-Leave.is (alone _ _ _ _ _ (lent_left c.leave.result _ c.args.self.now _ c.leave.new.now c.leave.ensures (rw c.in-Leave.is at c.requires.fits)) refl)

pub returns-in_ok-next-in-Pieces : goal.returns-in_ok-next-in-Pieces
returns-in_ok-next-in-Pieces g c =
    rw c.in-Pieces.is (alone _ _ _ _ _ (lent_pieces (Ok c.in_ok-next-in-Pieces.next) _ c.args.self.now _ c.in-Pieces.pieces.now c.in-Pieces.line c.go_pieces.new.now c.in_ok-next-in-Pieces.ensures (rw c.in-Pieces.is at c.requires.fits)) refl)
