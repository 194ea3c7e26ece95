use Rattle.std.proofs.Common.{◌≡◌, ◌∙◌, sym, ap, subst, IfOk}
use Rattle.jl_model.specs.declared.ty.Ty.TheViews.{out-Ty, outs-Nominal}
use Rattle.jl_model.specs.Ancestors.{table_of}
use Rattle.jl_subsig.specs.Side.{held, lift_to}
use Rattle.jl_subsig.proofs.LeftPartLemmas.{nominal_left}
use Rattle.jl_subsig.proofs.AncestorSteps.{lift_none}
use Rattle.jl_subsig.proofs.find.ancestor.Goals as goal

pub lifted-requires : goal.lifted-requires
lifted-requires c =
    (nominal_left c.args.table.now (held c.args.left.now c.args.row.now) c.valid.ensures c.args.ty.now c.in-Nominal.name c.in-Nominal.arguments c.requires.ty (c.in-Some.ensures ∙ ap out-Ty c.in-Nominal.is ∙ outs-Nominal c.in-Nominal.name c.in-Nominal.arguments)).0

pub returns-in-Nominal : goal.returns-in-Nominal
returns-in-Nominal c =
    let e = ap (lift_to (table_of c.args.table.now) c.args.target) (c.in-Some.ensures ∙ ap out-Ty c.in-Nominal.is ∙ outs-Nominal c.in-Nominal.name c.in-Nominal.arguments) in
    subst (λ z. IfOk c.lifted.result (λ found. found ≡ z)) (sym e) c.lifted.ensures

pub returns-in_default : goal.returns-in_default
returns-in_default c =
    let e = ap (lift_to (table_of c.args.table.now) c.args.target) c.in-Some.ensures in
    sym (e ∙ lift_none (table_of c.args.table.now) c.args.target c.in-Some.high.now c.in_default.not-Nominal)

pub returns-in-None : goal.returns-in-None
returns-in-None c = sym (ap (lift_to (table_of c.args.table.now) c.args.target) c.in-None.ensures)
