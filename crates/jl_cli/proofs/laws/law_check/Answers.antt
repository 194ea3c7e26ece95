use Rattle.jl_cli.proofs.LawLemmas.{check_law}
use Rattle.jl_cli.proofs.laws.law_check.Goals as goal

pub returns : goal.returns
returns c = check_law
