use Rattle.std.proofs.Common.{refl, length}
use Rattle.jl_model.specs.Ancestors.{table_of}
use Rattle.jl_subsig.proofs.RiseLemmas.{rising_known}
use Rattle.jl_subsig.proofs.MeetSteps.{all_normal}
use Rattle.jl_subsig.proofs.AppliedLemmas.{applied_step, any_step}
use Rattle.jl_subsig.proofs.serve.is_below_applied.Goals as goal

pub are_applied-requires : goal.are_applied-requires
are_applied-requires c = rising_known c.args.table.now c.args.left.now c.args.row.now c.requires.held c.args.ty.now c.in-Some.alternatives.now c.requires.ty c.in-Some.ensures

pub returns-in-Some : goal.returns-in-Some
returns-in-Some c =
    let ds = c.args.table.now in
    let vs = c.args.values.now in
    applied_step ds c.valid.ensures c.args.left.now c.args.row.now c.requires.held vs (all_normal (table_of ds) (length vs) vs refl (λ v l. (c.requires.values.items v l).normal)) c.args.target c.args.arguments.now c.args.arguments.now c.requires.upper refl c.are_applied.result c.args.ty.now
    c.in-Some.alternatives.now c.requires.ty c.in-Some.ensures c.are_applied.ensures

pub returns-in-None : goal.returns-in-None
returns-in-None c =
    let ds = c.args.table.now in
    let vs = c.args.values.now in
    any_step ds c.valid.ensures c.args.left.now c.args.row.now c.requires.held vs (all_normal (table_of ds) (length vs) vs refl (λ v l. (c.requires.values.items v l).normal)) c.args.target c.args.arguments.now c.args.arguments.now c.requires.upper refl c.args.ty.now c.requires.ty c.in-None.ensures
