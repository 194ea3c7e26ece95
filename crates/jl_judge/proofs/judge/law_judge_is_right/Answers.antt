use Rattle.jl_judge.proofs.TestLemmas.{right}
use Rattle.jl_judge.proofs.judge.law_judge_is_right.Goals as goal

pub returns : goal.returns
returns c = right c.args.judge.now.table.now c.args.judge.now.declared c.valid.ensures
