use Rattle.jl_cli.proofs.LawLemmas.{usage_law}
use Rattle.jl_cli.proofs.laws.law_usage.Goals as goal

pub returns : goal.returns
returns c = usage_law
