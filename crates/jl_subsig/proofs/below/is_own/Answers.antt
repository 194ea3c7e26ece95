use Rattle.std.proofs.Common.{◌∙◌, ap, length}
use Rattle.jl_subsig.proofs.OwnLemmas.{atom_own, none_own}
use Rattle.jl_subsig.proofs.below.is_own.Goals as goal

pub returns-then-width-gt0 : goal.returns-then-width-gt0
returns-then-width-gt0 c =
    atom_own c.args.upper.now c.in-Var.other c.args.number (length c.bounds-width.result.now) (length c.args.left.now.kept.vars) c.in-Var.is (ap length c.bounds-width.ensures ∙ c.requires) c.if-other-number.false

pub returns-else-width-gt0 : goal.returns-else-width-gt0
returns-else-width-gt0 c =
    none_own c.args.upper.now c.in-Var.other c.args.number (length c.bounds-width.result.now) (length c.args.left.now.kept.vars) c.in-Var.is (ap length c.bounds-width.ensures ∙ c.requires) c.if-other-number.false c.if-width-gt0.false
