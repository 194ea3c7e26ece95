use Rattle.std.proofs.Common.{◌∙◌, refl, sym, ap, List, []}
use Rattle.std.specs.List.{list_any}
use Rattle.jl_model.specs.declared.ty.Bound.{Bound}
use Rattle.jl_model.specs.Refusals.{bound_types}
use Rattle.jl_model.specs.Usable.{stands_in}
use Rattle.jl_sig.specs.Flags.{with_flag}
use Rattle.jl_sig.proofs.FlagLemmas.{with_none, step_bounds, all_done}
use Rattle.jl_sig.proofs.usable_flags.set_standing_in_bounds.Goals as goal

pub loop-bound-preserved : goal.loop-bound-preserved
loop-bound-preserved c =
    step_bounds c.args.value c.args.bounds.now c.loop-bound.bound-index c.bound-item.result c.loop-bound-test.true c.bound-item.is c.loop-bound.flags.items c.set_standing.new.flags.items c.set_standing-in-loop-bound.new.flags.items
    c.set_standing.ensures c.set_standing-in-loop-bound.ensures ∙ c.loop-bound.invariant

pub returns : goal.returns
returns c =
    sym (ap (λ (z : List Bound). with_flag (λ v. list_any (stands_in v) (bound_types z)) c.args.value 0 c.loop-bound.flags.items) (all_done c.args.bounds.now c.loop-bound.bound-index c.loop-bound-test.false)
    ∙ with_none (λ v. list_any (stands_in v) []) c.args.value 0 c.loop-bound.flags.items (λ v. refl))
    ∙ c.loop-bound.invariant
