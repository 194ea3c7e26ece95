use Rattle.std.proofs.Common.{◌∙◌, sym}
use Rattle.jl_model.specs.Ancestors.{table_of}
use Rattle.jl_model.specs.Subtype.{at}
use Rattle.jl_subsig.specs.Side.{held}
use Rattle.jl_subsig.proofs.HighLemmas.{high_item}
use Rattle.jl_subsig.proofs.NamedLemmas.{closed_nominal}
use Rattle.jl_subsig.proofs.ServeSteps.{put_below, not_named, high_applied}
use Rattle.jl_subsig.proofs.serve.is_below_high.Goals as goal

pub is_below-requires-clause-upper : goal.is_below-requires-clause-upper
is_below-requires-clause-upper c = high_item c.args.table.now c.args.high.now c.requires.high

pub returns-then-are_closed : goal.returns-then-are_closed
returns-then-are_closed c =
    put_below (table_of c.args.table.now) (held c.args.left.now c.args.row.now) (at c.args.values.now) c.args.ty.now c.args.high.now c.is_below.result
    (closed_nominal c.args.high.now c.in-Nominal.target c.in-Nominal.arguments c.as_slice-arguments.result.now c.in-Nominal.is c.as_slice-arguments.ensures (sym c.are_closed.ensures ∙ c.if-are_closed.true)) c.is_below.ensures

pub is_below_applied-requires-clause-upper : goal.is_below_applied-requires-clause-upper
is_below_applied-requires-clause-upper c =
    high_applied c.args.table.now c.valid.ensures c.args.high.now c.in-Nominal.target c.in-Nominal.arguments c.as_slice-arguments.result.now c.requires.high c.in-Nominal.is c.as_slice-arguments.ensures

pub is_below-requires-in_default-clause-upper : goal.is_below-requires-in_default-clause-upper
is_below-requires-in_default-clause-upper c = high_item c.args.table.now c.args.high.now c.requires.high

pub returns-in_default : goal.returns-in_default
returns-in_default c =
    put_below (table_of c.args.table.now) (held c.args.left.now c.args.row.now) (at c.args.values.now) c.args.ty.now c.args.high.now c.is_below-in_default.result (not_named c.args.table.now c.args.high.now c.requires.high c.in_default.not-Nominal)
    c.is_below-in_default.ensures
