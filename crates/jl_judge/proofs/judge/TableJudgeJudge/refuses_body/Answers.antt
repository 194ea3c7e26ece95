use Rattle.std.proofs.Common.{refl, None, sym, ◌∙◌}
use Rattle.std.proofs.lemmas.Result.{IfOk-weaker}
use Rattle.jl_judge.proofs.TestLemmas.{body_is, not_both}
use Rattle.jl_judge.specs.Tests.{names_declared}
use Rattle.jl_judge.proofs.judge.TableJudgeJudge.refuses_body.Goals as goal

pub returns-then-not-branch : goal.returns-then-not-branch
returns-then-not-branch c =
    let s = c.args.self.now in
    let w = c.args.written.now in
    body_is s.table.now s.declared c.valid.ensures w None (λ e. absurd (not_both (names_declared s.table.now w) e (sym c.in_ok-names_declared.ensures ∙ c.if-not-branch.true))) (λ e. refl)

pub returns : goal.returns
returns c =
    let s = c.args.self.now in
    let w = c.args.written.now in
    IfOk-weaker c.body_refusal.result _ _ (λ o a. body_is s.table.now s.declared c.valid.ensures w o (λ f. a) (λ f. absurd (not_both (names_declared s.table.now w) (sym c.in_ok-names_declared.ensures ∙ c.if-not-branch.false) f))) c.body_refusal.ensures
