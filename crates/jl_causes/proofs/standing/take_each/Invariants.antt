use Rattle.std.proofs.Common.{◌≡◌, ℕ, length, take}
use Rattle.std.specs.List.{Contains}
use Rattle.jl_methods.specs.Numbered.{nth, RisesFrom}
use Rattle.jl_causes.specs.Stands.{lists_in, IsTaken}
use Rattle.jl_causes.proofs.standing.take_each.Given as goal

abbrev pub invariant-loop-site : goal.invariant-loop-site
invariant-loop-site l = record {
  many : length (lists_in l.gone) ≡ length (lists_in l.initial.gone);
  others : (m : ℕ) → (Contains (take l.site-index l.sites) m → ⊥) → nth (lists_in l.gone) m ≡ nth (lists_in l.initial.gone) m;
  taken : (m : ℕ) → Contains (take l.site-index l.sites) m → RisesFrom 0 (nth (lists_in l.made) m) → RisesFrom 0 (nth (lists_in l.initial.gone) m) → IsTaken l.world (nth (lists_in l.made) m) (nth (lists_in l.initial.gone) m) (nth (lists_in l.gone) m);
}
