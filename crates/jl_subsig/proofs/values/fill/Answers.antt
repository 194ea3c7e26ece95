use Rattle.std.proofs.Common.{length}
use Rattle.jl_model.specs.declared.ty.Ty.TheVariants as W
use Rattle.jl_model.specs.Signature.{top}
use Rattle.jl_model.specs.Subtype.{at}
use Rattle.jl_subsig.specs.Side.{row_of, sided}
use Rattle.jl_subsig.proofs.ValueSteps.{top_at, filled_high, filled_any}
use Rattle.jl_subsig.proofs.values.fill.Goals as goal

pub returns-in-Some-top : goal.returns-in-Some-top
returns-in-Some-top c =
    filled_high c.put.result c.args.hit.now (at c.args.values.now) c.in-Some-top.high.now (top (sided c.args.right.now) (row_of c.args.other.now) (length c.args.values.now)) c.in-None.is
    (top_at c.args.right.now c.args.other.now c.requires.right c.requires.wide c.requires.kinds c.bounds.result.now (length c.args.values.now) c.in-Some-top.high.now c.bounds.ensures c.requires.few c.in-Some-top.ensures) c.put.ensures

pub returns-in-None-top : goal.returns-in-None-top
returns-in-None-top c =
    filled_any c.args.hit.now (at c.args.values.now) (top (sided c.args.right.now) (row_of c.args.other.now) (length c.args.values.now)) c.in-None.is
    (top_at c.args.right.now c.args.other.now c.requires.right c.requires.wide c.requires.kinds c.bounds.result.now (length c.args.values.now) W.Any c.bounds.ensures c.requires.few c.in-None-top.ensures)
