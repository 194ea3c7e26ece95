use Rattle.std.proofs.Common.{length, arith}
use Rattle.jl_model.specs.Valid.{is_known}
use Rattle.jl_types.proofs.GroundLemmas.{all-at}
use Rattle.jl_subsig.proofs.RiseLemmas.{rising_known}
use Rattle.jl_subsig.proofs.rise.lift_first.Goals as goal

pub lift-requires : goal.lift-requires
lift-requires c = all-at (is_known (length c.args.table.now)) c.in-Some.alternatives.now 0 c.index-alternatives-0.result (rising_known c.args.table.now c.args.left.now c.args.row.now c.requires.held c.args.ty.now c.in-Some.alternatives.now c.requires.ty c.in-Some.ensures) (grind (arith, c.is_empty.ensures, c.if-is_empty.false)) c.index-alternatives-0.is
