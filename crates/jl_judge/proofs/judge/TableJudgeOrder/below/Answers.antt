use Rattle.std.proofs.lemmas.Result.{IfOk-weaker}
use Rattle.jl_judge.proofs.TestLemmas.{below_is}
use Rattle.jl_judge.proofs.judge.TableJudgeOrder.below.Goals as goal

pub returns : goal.returns
returns c = IfOk-weaker c.is_below.result _ _ (below_is c.args.self.now.table.now c.args.self.now.declared c.valid.ensures c.args.low.now c.args.high.now) c.is_below.ensures
