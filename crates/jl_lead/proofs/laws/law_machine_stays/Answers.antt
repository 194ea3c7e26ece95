use Rattle.jl_lead.proofs.Carrying.{machine_stays}
use Rattle.jl_lead.proofs.laws.law_machine_stays.Goals as goal

pub returns : goal.returns
returns c = machine_stays
