use Rattle.jl_operations.proofs.MemoLemmas.{of_form}
use Rattle.jl_operations.proofs.memo.Memo.find_form.Goals as goal

pub returns-in-Some-form : goal.returns-in-Some-form
returns-in-Some-form c = of_form c.args.self.now c.args.written.now c.in-Some.prepared.now c.in-Some-form.form c.in-Some.ensures c.in-Some-form.is
