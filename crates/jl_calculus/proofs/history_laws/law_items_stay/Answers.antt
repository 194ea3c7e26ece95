use Rattle.jl_calculus.proofs.GrowthLemmas.{learnt_on, kept_on}
use Rattle.jl_calculus.proofs.history_laws.law_items_stay.Goals as goal

pub returns : goal.returns
returns c = record { items = λ P es more task i h. learnt_on es more P task i h; kept = kept_on }
