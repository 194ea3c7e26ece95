use Rattle.std.proofs.Common.{◌∙◌, sym}
use Rattle.jl_queue.proofs.BoardLemmas.{take_whole}
use Rattle.jl_queue.proofs.board.Board.take.Goals as goal

pub returns-clause-whole : goal.returns-clause-whole
returns-clause-whole g c =
    λ job. take_whole c.args.self.now c.self.inside.line c.pop.new.self c.self.inside.waiting.items c.pop.result job (sym c.self.view_is) c.pop.ensures.item c.pop.ensures.empty (sym c.is_closed.ensures ∙ c.if-is_closed.false)
