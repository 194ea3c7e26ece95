use Rattle.std.proofs.Common.{inl, inr}
use Rattle.jl_rows.proofs.KeptLemmas.{covered_kept, chosen_kept, none_kept, planned_kept}
use Rattle.jl_rows.proofs.laws.law_kept_calls.Goals as goal

pub returns : goal.returns
returns c = record {
  keys = λ P es room f ts w l full. (l, inl full);
  rows = λ P es room f ts w l full. (l, inr (inl full));
  covered = covered_kept;
  chosen = chosen_kept;
  no_method = none_kept;
  planned = planned_kept;
}
