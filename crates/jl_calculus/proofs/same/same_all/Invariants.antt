use Rattle.std.proofs.Common.{◌≡◌, drop}
use Rattle.jl_calculus.proofs.same.same_all.Given as goal

abbrev pub invariant-loop-i : goal.invariant-loop-i
invariant-loop-i g l = record {
  whole : drop l.i l.xs ≡ drop l.i l.ys → l.xs ≡ l.ys;
  rest : l.xs ≡ l.ys → drop l.i l.xs ≡ drop l.i l.ys;
}
