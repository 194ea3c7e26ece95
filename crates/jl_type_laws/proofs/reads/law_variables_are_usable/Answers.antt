use Rattle.std.proofs.Common.{take}
use Rattle.jl_type_laws.proofs.BodyLemmas.{vars_at}
use Rattle.jl_type_laws.proofs.ReadLemmas.{type_law, all_law, bound_law}
use Rattle.jl_type_laws.proofs.reads.law_variables_are_usable.Goals as goal

pub returns : goal.returns
returns c = record {
  one = λ ds k n q t s inside r v h e m.
      let x = (type_law (take n ds) _ _ _ _ (vars_at ds k n q) t s inside r).holds e m v h in
      record { ty = x.0; after = x.1 };
  many = λ ds k n q ts vars r v h e m. (all_law (take n ds) _ _ _ _ (vars_at ds k n q) ts vars r).holds e m v h;
  variables = λ ds k n q vs r h e m. (bound_law (take n ds) _ _ _ _ (vars_at ds k n q) vs r).holds e m tt h;
}
