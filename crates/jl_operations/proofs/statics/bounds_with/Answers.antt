use Rattle.jl_calculus.specs.Statics.{own_or_bound}
use Rattle.jl_operations.proofs.StaticLemmas.{bounds_shared}
use Rattle.jl_operations.proofs.statics.bounds_with.Goals as goal

pub returns : goal.returns
returns c =
    bounds_shared (own_or_bound c.args.statics.now c.args.own) c.args.bounds.now c.as_slice-items.result.now c.in_ok-copy.copy c.have_variables.result c.as_slice-items.ensures c.in_ok-copy.ensures c.have_variables.ensures c.if-have_variables.false
