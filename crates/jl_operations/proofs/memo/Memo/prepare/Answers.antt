use Rattle.std.proofs.Common.{◌≡◌, sym, subst}
use Rattle.std.proofs.lemmas.Result.{IfOk-weaker}
use Rattle.jl_operations.specs.Bodies.{IsKeptAs}
use Rattle.jl_operations.specs.Memo.{IsOf}
use Rattle.jl_operations.proofs.MemoLemmas.{of_kept}
use Rattle.jl_operations.proofs.memo.Memo.prepare.Goals as goal

pub returns-in-Some-clause-kept : goal.returns-in-Some-clause-kept
returns-in-Some-clause-kept c =
    let of = subst (λ ds. IsOf ds c.args.written.now c.in-Some.prepared.now) c.requires.types c.in-Some.ensures in
    let kept = of_kept c.args.table.now c.args.written.now c.in-Some.prepared.now of in
    IfOk-weaker c.copy.result (λ k. k ≡ c.in-Some.prepared.now.kept) (λ k. IsKeptAs c.args.table.now c.args.written.now k)
    (λ k e. subst (IsKeptAs c.args.table.now c.args.written.now) (sym e) kept) c.copy.ensures
