use Rattle.std.proofs.Common.{refl}
use Rattle.jl_model.specs.declared.ty.Ty.TheViews as V
use Rattle.jl_sig.proofs.FitLemmas.{nominal_fit}
use Rattle.jl_operations.proofs.SettleLemmas.{own_none, own_some}
use Rattle.jl_operations.proofs.broken.own_broken.Goals as goal

pub returns-then-not-branch : goal.returns-then-not-branch
returns-then-not-branch c = own_none c.args.table.now c.args.name c.args.types.now c.in_ok-is_broken.field-0 c.in_ok-is_broken.ensures c.if-not-branch.true

pub settle_arguments-requires : goal.settle_arguments-requires
settle_arguments-requires c = nominal_fit c.args.table.now (V.Nominal c.args.name c.args.types.now) c.args.name c.args.types.now c.args.types.now refl refl c.requires

pub returns : goal.returns
returns c = own_some c.args.table.now c.args.name c.args.types.now c.in_ok-arguments.arguments c.in_ok-is_broken.field-0 c.in_ok-is_broken.ensures c.if-not-branch.false c.requires c.in_ok-arguments.ensures
