use Rattle.jl_rows.proofs.KeptLemmas.{linked_chosen}
use Rattle.jl_rows.proofs.laws.law_linked_row_is_chosen.Goals as goal

pub returns : goal.returns
returns c = linked_chosen
