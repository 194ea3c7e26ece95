use Rattle.jl_causes.proofs.LawLemmas.{no_cause_is_legal, no_cause_so_far}
use Rattle.jl_causes.proofs.laws.law_no_cause_is_legal.Goals as goal

pub returns : goal.returns
returns c = record { whole = no_cause_is_legal; front = no_cause_so_far }
