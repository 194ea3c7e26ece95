use Rattle.std.proofs.Common.{take}
use Rattle.jl_type_laws.proofs.BodyLemmas.{known_at, all_visible}
use Rattle.jl_type_laws.proofs.ReadLemmas.{type_law, all_law, bound_law}
use Rattle.jl_type_laws.proofs.reads.law_types_are_known.Goals as goal

pub returns : goal.returns
returns c = record {
  one = λ ds k n t s inside r h.
      let x = (type_law (take n ds) _ _ _ _ (known_at ds k n) t s inside r).holds tt (λ v l. tt) (all_visible s.first, all_visible s.own) h in
      record { ty = x.0; after = x.1 };
  many = λ ds k n ts vars r h. (all_law (take n ds) _ _ _ _ (known_at ds k n) ts vars r).holds tt (λ v l. tt) (all_visible vars) h;
  variables = λ ds k n vs r h. let x = (bound_law (take n ds) _ _ _ _ (known_at ds k n) vs r).holds tt (λ v l. tt) tt h in x.1;
}
