use Rattle.std.proofs.Common.{◌≡◌, ◌≤◌, ℕ, drop, length}
use Rattle.std.specs.Prelude.{reverse}
use Rattle.jl_subsig.specs.Latest.{AreLatest}
use Rattle.jl_subsig.proofs.BackLemmas.{AreMet}
use Rattle.jl_subsig.proofs.latest.latest.Given as goal

abbrev pub invariant-loop-left : goal.invariant-loop-left
invariant-loop-left l = record {
  within : l.left ≤ length l.defs;
  long : length l.met.items ≡ length l.ready.sites;
  told : AreMet l.met.items (drop l.left l.defs);
  latest : AreLatest l.ready (drop l.left l.defs) (reverse l.those.items);
}

abbrev pub decreases-loop-left : goal.decreases-loop-left
decreases-loop-left l = l.left
