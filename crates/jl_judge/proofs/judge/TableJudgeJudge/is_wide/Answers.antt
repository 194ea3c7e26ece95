use Rattle.std.proofs.Common.{refl, arith, false}
use Rattle.std.proofs.lemmas.Result.{IfOk-weaker}
use Rattle.jl_judge.proofs.TestLemmas.{wide_is}
use Rattle.jl_judge.proofs.judge.TableJudgeJudge.is_wide.Goals as goal

pub returns-then-number-count : goal.returns-then-number-count
returns-then-number-count c =
    let s = c.args.self.now in
    let e = c.count.ensures in
    let i = c.if-number-count.true in
    wide_is s.table.now s.declared c.valid.ensures c.args.number false (λ l. absurd (omega (arith, e, i, l))) (λ d. refl)

pub returns : goal.returns
returns c =
    let s = c.args.self.now in
    let e = c.count.ensures in
    let i = c.if-number-count.false in
    IfOk-weaker c.is_too_wide.result _ _
    (λ b t. wide_is s.table.now s.declared c.valid.ensures c.args.number b (λ l. t) (λ d. absurd (d (omega (arith, e, i))))) c.is_too_wide.ensures
