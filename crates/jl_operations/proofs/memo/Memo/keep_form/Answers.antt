use Rattle.std.proofs.Common.{sym, subst}
use Rattle.jl_operations.specs.Memo.{IsRight}
use Rattle.jl_operations.proofs.MemoLemmas.{right_of}
use Rattle.jl_operations.proofs.memo.Memo.keep_form.Goals as goal

pub keep-requires : goal.keep-requires
keep-requires c =
    subst (λ ds. IsRight ds (record { written = c.in_ok-written.written; kept = c.in_ok-kept.kept; form = c.in_ok-form.form })) (sym c.requires.types)
    (right_of c.args.table.now c.args.written.now c.in_ok-written.written c.args.kept.now c.in_ok-kept.kept c.in_ok-form.form c.in_ok-written.ensures c.in_ok-kept.ensures c.requires.body c.requires.kept c.in_ok-form.ensures)
