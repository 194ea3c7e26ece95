use Rattle.std.proofs.Common.{sym}
use Rattle.jl_queue.proofs.BoardLemmas.{marked}
use Rattle.jl_queue.proofs.board.Board.mark_ended.Goals as goal

pub returns : goal.returns
returns g c = marked c.args.self.now c.self.inside.line c.self.inside.waiting.items c.args.task c.replace.new.dest (sym c.self.view_is) c.replace.ensures.after
