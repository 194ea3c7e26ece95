use Rattle.std.proofs.Common.{sym, subst}
use Rattle.jl_operations.specs.Memo.{IsRight}
use Rattle.jl_operations.proofs.MemoLemmas.{right_with}
use Rattle.jl_operations.proofs.memo.Memo.keep.Goals as goal

pub invariant_of-self : goal.invariant_of-self
invariant_of-self c = right_with _ _ c.self.inside.table.items c.keep_prepared.new.table.items c.keep_prepared.ensures (subst (λ ds. IsRight ds c.args.prepared) (sym c.self.view_is) c.requires) c.self.invariant
