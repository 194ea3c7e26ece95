use Rattle.std.proofs.Common.{◌∙◌, ap, subst, ◌<◌, ◌≤◌, List, length, get_or}
use Rattle.jl_model.specs.declared.ty.Bound.{Bound}
use Rattle.jl_model.specs.Rows.{free}
use Rattle.jl_subsig.proofs.BelowLemmas.{item_ground, plain_ground, low_plain, low_step, no_low_step}
use Rattle.jl_subsig.proofs.GroundNone.{none_ground}
use Rattle.jl_subsig.proofs.below.is_low_above.Goals as goal

pub ground_sub-requires-clause-a_ground : goal.ground_sub-requires-clause-a_ground
ground_sub-requires-clause-a_ground c = item_ground c.args.table.now c.args.ty.now c.requires.ty

pub ground_sub-requires-clause-b_ground : goal.ground_sub-requires-clause-b_ground
ground_sub-requires-clause-b_ground c =
    let k = c.in-Some.ensures in
    let l = subst (λ z. c.args.number < length z) c.bounds.ensures k.0 in
    let e = k.1 ∙ ap (λ (z : List Bound). (get_or z c.args.number free).low) c.bounds.ensures in
    plain_ground c.args.table.now c.in-Some.low.now (low_plain c.args.table.now c.valid.ensures c.args.left.now c.args.row.now c.requires.held c.in-Some.low.now c.args.number l e)

pub ground_sub-requires-in-None-clause-a_ground : goal.ground_sub-requires-in-None-clause-a_ground
ground_sub-requires-in-None-clause-a_ground c = item_ground c.args.table.now c.args.ty.now c.requires.ty

pub ground_sub-requires-in-None-clause-b_ground : goal.ground_sub-requires-in-None-clause-b_ground
ground_sub-requires-in-None-clause-b_ground c = none_ground c.args.table.now c.empty.result c.empty.ensures

pub returns-in-Some : goal.returns-in-Some
returns-in-Some c =
    let k = c.in-Some.ensures in
    let l = subst (λ z. c.args.number < length z) c.bounds.ensures k.0 in
    let e = k.1 ∙ ap (λ (z : List Bound). (get_or z c.args.number free).low) c.bounds.ensures in
    low_step c.args.table.now c.valid.ensures c.args.left.now c.args.row.now c.requires.held c.args.ty.now c.in-Some.low.now c.args.number c.ground_sub.result c.requires.rigid l e c.ground_sub.ensures

pub returns-in-None : goal.returns-in-None
returns-in-None c =
    let l = subst (λ z. length z ≤ c.args.number) c.bounds.ensures c.in-None.ensures in
    no_low_step c.args.table.now c.valid.ensures c.args.left.now c.args.row.now c.requires.held c.args.ty.now c.empty.result c.args.number c.ground_sub-in-None.result c.requires.rigid l c.empty.ensures c.ground_sub-in-None.ensures
