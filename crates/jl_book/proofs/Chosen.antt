-- What a search found is chosen, since the program is valid.
use Rattle.std.proofs.Common.{ℕ, List}
use Rattle.jl_program.specs.declared.tree.Program.{Program}
use Rattle.jl_program.specs.Valid.{IsValid}
use Rattle.jl_calculus.specs.declared.history.Event.{Event}
use Rattle.jl_calculus.specs.Learnt.{IsChosen}
use Rattle.jl_cache.specs.declared.found.Found.{Found}
use Rattle.jl_cache.specs.declared.found.Found.TheVariants as F
use Rattle.jl_cache.specs.Finds.{IsHit, MatchFound}

module _ (P : Program) (valid : IsValid P) (es : List Event) (key w : ℕ) where
  pub chosen_if_hit : (site : ℕ) → IsHit P es key w site → IsChosen P es key w site
  chosen_if_hit site h = record { known = h.known; key = h.key; named = h.named; covered = h.covered; choice = h.choice valid }

  pub hit_chosen : {M : Type 0} (found : Found M) (miss : M → Type 0) → MatchFound found (IsHit P es key w) miss → MatchFound found (IsChosen P es key w) miss
  hit_chosen (F.Hit site) miss h = chosen_if_hit site h
  hit_chosen (F.Miss m) miss h = h
