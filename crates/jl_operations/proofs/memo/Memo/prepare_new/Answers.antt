use Rattle.std.proofs.Common.{sym, subst, None}
use Rattle.jl_operations.specs.Memo.{IsRight}
use Rattle.jl_operations.proofs.MemoLemmas.{right_of}
use Rattle.jl_operations.proofs.memo.Memo.prepare_new.Goals as goal

pub keep-requires-2 : goal.keep-requires-2
keep-requires-2 c =
    subst (λ ds. IsRight ds (record { written = c.in_ok-written.written; kept = c.in_ok-copy.copy; form = None })) (sym c.requires.types)
    (right_of c.args.table.now c.args.written.now c.in_ok-written.written c.in_ok-kept.kept c.in_ok-copy.copy None c.in_ok-written.ensures c.in_ok-copy.ensures c.requires.body c.in_ok-kept.ensures tt)
