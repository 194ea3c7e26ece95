use Rattle.std.proofs.Common.{◌<◌, length}
use Rattle.jl_calculus.specs.Ranges.{keys_of}
use Rattle.store_tests.proofs.readers.search_often.Given as goal

abbrev pub invariant-loop : goal.invariant-loop
invariant-loop g l = 0 < length (keys_of l.seat.seen)
