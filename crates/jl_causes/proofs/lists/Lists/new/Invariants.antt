use Rattle.std.proofs.Common.{◌≡◌, ℕ, [], length, map}
use Rattle.std.specs.Global.{Vec}
use Rattle.jl_methods.specs.Numbered.{nth}
use Rattle.jl_causes.proofs.lists.Lists.new.Given as goal

abbrev pub invariant-loop : goal.invariant-loop
invariant-loop l = (length (map (λ (v : Vec _). v.items) l.lists.items) ≡ l.counter) × ((n : ℕ) → nth (map (λ (v : Vec _). v.items) l.lists.items) n ≡ [])
