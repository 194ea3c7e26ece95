use Rattle.std.proofs.Common.{refl, sym}
use Rattle.jl_queue.proofs.BoardLemmas.{on_ok, push_whole}
use Rattle.jl_queue.proofs.board.Board.push.Goals as goal

pub returns-clause-whole : goal.returns-clause-whole
returns-clause-whole g c =
    on_ok c.push.result c.push.ensures.put
    (push_whole c.args.self.now c.self.inside.line c.push.new.self c.self.inside.waiting.items c.self.inside.waiting.items c.args.job (sym c.self.view_is) refl)
