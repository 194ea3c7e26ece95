use Rattle.jl_calculus.proofs.GrowthLemmas.{selects_on, selects_back, covers_on, covers_back}
use Rattle.jl_calculus.proofs.BetweenLemmas.{right_on}
use Rattle.jl_calculus.proofs.history_laws.law_old_worlds_stay.Goals as goal

pub returns : goal.returns
returns c = record {
  choice = λ P es more f ts w k l. (selects_on P es more f ts w k l, selects_back P es more f ts w k l);
  ranges = λ P es more key first w l. (covers_on P es more key first w l, covers_back P es more key first w);
  right = right_on;
}
