use Rattle.jl_written.specs.Reads.{no_reading}
use Rattle.jl_type_laws.proofs.CarryLemmas.{nothing_carried}
use Rattle.jl_type_laws.proofs.ReadLemmas.{type_law, option_law, all_law, bound_law}
use Rattle.jl_type_laws.proofs.reads.law_reading_only_adds.Goals as goal

pub returns : goal.returns
returns c = record {
  one = λ ds t s inside r. (type_law ds _ _ _ _ (nothing_carried ds) t s inside r).grows;
  optional = λ ds t vars r. (option_law ds _ _ _ _ (nothing_carried ds) t vars r).grows;
  many = λ ds ts vars r. (all_law ds _ _ _ _ (nothing_carried ds) ts vars r).grows;
  variables = λ ds vs r. (bound_law ds _ _ _ _ (nothing_carried ds) vs r).grows;
  named = λ ds t s inside. (type_law ds _ _ _ _ (nothing_carried ds) t s inside no_reading).grows.named;
  clear = λ ds t s inside. (type_law ds _ _ _ _ (nothing_carried ds) t s inside no_reading).grows.told;
}
