use Rattle.std.proofs.Common.{sym, subst}
use Rattle.std.proofs.lemmas.List.{drop_all}
use Rattle.jl_model.specs.Signature.{Both}
use Rattle.jl_model.specs.Refusals.{bound_types}
use Rattle.jl_sig.specs.Fit.{IsKeptAs}
use Rattle.jl_sig.proofs.FormSteps.{bounds_step, bounds_done}
use Rattle.jl_sig.proofs.KeptLemmas.{bounds_fit}
use Rattle.jl_sig.proofs.kept.keep_bounds.Goals as goal

pub keep-requires : goal.keep-requires
keep-requires c = (bounds_fit c.args.table.now c.args.bounds.now c.loop-bound.bound-index c.bound-item.result c.requires c.loop-bound-test.true c.bound-item.is).0

pub keep-requires-in-loop-bound : goal.keep-requires-in-loop-bound
keep-requires-in-loop-bound c = (bounds_fit c.args.table.now c.args.bounds.now c.loop-bound.bound-index c.bound-item.result c.requires c.loop-bound-test.true c.bound-item.is).1

pub loop-bound-preserved : goal.loop-bound-preserved
loop-bound-preserved c = λ cs r.
    bounds_step (IsKeptAs c.args.table.now) c.args.bounds.now c.loop-bound.bound-index c.bound-item.result (record { low = c.in_ok-low.low; high = c.in_ok-high.high }) c.loop-bound.kept.items c.push_bound.new.bounds.items
    c.loop-bound-test.true c.bound-item.is c.in_ok-low.ensures c.in_ok-high.ensures c.in_ok-push_bound.ensures c.loop-bound.invariant cs r

pub returns : goal.returns
returns c =
    let R = IsKeptAs c.args.table.now in
    subst (λ z. Both R (bound_types c.args.bounds.now) (bound_types z)) (sym c.in_ok-kept.ensures)
    (bounds_done R c.args.bounds.now c.loop-bound.kept.items c.loop-bound.bound-index (drop_all c.loop-bound.bound-index c.args.bounds.now c.loop-bound-test.false) c.loop-bound.invariant)
