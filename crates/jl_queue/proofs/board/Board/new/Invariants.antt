use Rattle.std.proofs.Common.{◌≡◌, [], map, replicate, Some}
use Rattle.jl_queue.specs.Boards.{queued}
use Rattle.jl_queue.proofs.board.Board.new.Given as goal

abbrev pub invariant-loop : goal.invariant-loop
invariant-loop g l = map queued l.waiting.items ≡ replicate l.counter (Some [])
