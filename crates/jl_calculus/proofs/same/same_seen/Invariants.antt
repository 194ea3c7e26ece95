use Rattle.std.proofs.Common.{◌≡◌, drop}
use Rattle.jl_calculus.proofs.same.same_seen.Given as goal

abbrev pub invariant-loop-slot : goal.invariant-loop-slot
invariant-loop-slot l = record {
  whole : drop l.slot l.one ≡ drop l.slot l.other → l.one ≡ l.other;
  rest : l.one ≡ l.other → drop l.slot l.one ≡ drop l.slot l.other;
}
