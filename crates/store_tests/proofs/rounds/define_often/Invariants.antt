use Rattle.store_tests.specs.Rounds.{IsRound}
use Rattle.store_tests.proofs.rounds.define_often.Given as goal

abbrev pub invariant-loop-number : goal.invariant-loop-number
invariant-loop-number g l = IsRound g.N.Naming.about.fuel l.number l.book
