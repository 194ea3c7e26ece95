use Rattle.std.proofs.Common.{subst}
use Rattle.jl_operations.specs.Memo.{IsOf}
use Rattle.jl_operations.proofs.MemoLemmas.{found_right}
use Rattle.jl_operations.proofs.memo.Memo.find.Goals as goal

pub returns-in-Some : goal.returns-in-Some
returns-in-Some c =
    subst (λ ds. IsOf ds c.args.written.now c.in-Some.found.now) c.self.view_is
    (found_right _ c.self.inside.table.items c.args.written.now c.in-Some.found.now c.self.invariant
    (rw (← c.deref.ensures.value) c.in-Some.ensures))
