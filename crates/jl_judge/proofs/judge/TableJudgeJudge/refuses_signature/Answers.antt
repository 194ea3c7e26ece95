use Rattle.std.proofs.Common.{refl, None}
use Rattle.std.proofs.lemmas.Result.{IfOk-weaker}
use Rattle.jl_judge.proofs.TestLemmas.{signature_is, named_well, not_named, not_both}
use Rattle.jl_judge.specs.Tests.{is_well_named}
use Rattle.jl_judge.proofs.judge.TableJudgeJudge.refuses_signature.Goals as goal

pub returns-then-not-is_well_named : goal.returns-then-not-is_well_named
returns-then-not-is_well_named c =
    let s = c.args.self.now in
    let w = c.args.written.now in
    let h = c.is_well_named in
    signature_is s.table.now s.declared c.valid.ensures w None (λ e. absurd (not_named s.table.now w h.result h.ensures.all c.if-not-is_well_named.true e)) (λ e. refl)

pub returns : goal.returns
returns c =
    let s = c.args.self.now in
    let w = c.args.written.now in
    let h = c.is_well_named in
    let e = named_well s.table.now w h.result h.ensures.own h.ensures.known c.if-not-is_well_named.false in
    IfOk-weaker c.signature_refusal.result _ _ (λ o a. signature_is s.table.now s.declared c.valid.ensures w o (λ f. a) (λ f. absurd (not_both (is_well_named s.table.now w) e f))) c.signature_refusal.ensures
