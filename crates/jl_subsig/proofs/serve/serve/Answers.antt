use Rattle.std.proofs.Common.{subst, inl, inr}
use Rattle.jl_model.specs.Ancestors.{table_of}
use Rattle.jl_model.specs.Subtype.{at}
use Rattle.jl_subsig.specs.Side.{row_of, held, sided}
use Rattle.jl_search.specs.Serving.{ServesAt}
use Rattle.jl_subsig.proofs.ServeSteps.{below_or}
use Rattle.jl_subsig.proofs.serve.serve.Goals as goal

pub loop-variable-preserved : goal.loop-variable-preserved
loop-variable-preserved c v l = elim (below_or v c.loop-variable.variable l) [
  | inl h ↦ c.loop-variable.invariant v h
  | inr e ↦
      subst (ServesAt (table_of c.args.table.now) (held c.args.left.now c.args.row.now) (sided c.args.right.now) (row_of c.args.other.now) (at c.args.values.now)) e (c.in_ok-serves_one.ensures.0 c.if-not-branch.false)
]
