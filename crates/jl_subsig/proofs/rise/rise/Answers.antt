use Rattle.std.proofs.Common.{◌∙◌}
use Rattle.jl_subsig.proofs.LeftPartLemmas.{match_map}
use Rattle.jl_subsig.proofs.RiseLemmas.{union_rising, var_rising, other_rising}
use Rattle.jl_subsig.proofs.rise.rise.Goals as goal

pub returns-in-Union : goal.returns-in-Union
returns-in-Union c = union_rising c.args.table.now c.args.left.now c.args.row.now c.requires.held c.args.ty.now c.in-Union.members c.as_slice.result.now c.in-Union.is c.as_slice.ensures c.requires.ty

pub returns-in-Var : goal.returns-in-Var
returns-in-Var c =
    let e = var_rising c.args.table.now c.args.left.now c.args.row.now c.requires.held c.args.ty.now c.in-Var.number c.in-Var.is in
    match_map c.rise_variable.result _ _ _ _ (λ h. e ∙ h) (λ t h. e ∙ h) c.rise_variable.ensures

pub returns-in_default : goal.returns-in_default
returns-in_default c = other_rising c.args.table.now c.args.left.now c.args.row.now c.requires.held c.args.ty.now c.from_ref.result.now c.requires.ty c.in_default.not-Union c.in_default.not-Var c.from_ref.ensures.value
