use Rattle.std.proofs.Common.{◌≡◌, subst, ℕ, List}
use Rattle.jl_model.specs.declared.ty.Ty.{Ty}
use Rattle.jl_model.specs.declared.ty.Ty.TheVariants as W
use Rattle.jl_model.specs.declared.ty.Bound.{Bound}
use Rattle.jl_sig.specs.declared.row.SigRow.{SigRow}
use Rattle.jl_sig.specs.declared.sig.Sig.{Sig}
use Rattle.jl_subsig.specs.Side.{tops}
use Rattle.jl_subsig.proofs.HighLemmas.{high_any, high_item, high_rigid}
use Rattle.jl_subsig.proofs.BelowLemmas.{own_step, high_step, high_at}
use Rattle.jl_subsig.proofs.below.is_variable_below.Goals as goal

there : (s : Sig) (r : SigRow) (k : ℕ) (t : Ty) (xs ys : List Bound) → xs ≡ ys → tops xs s r k ≡ t → tops ys s r k ≡ t
there s r k t xs ys e h = subst (λ z. tops z s r k ≡ t) e h

pub returns-then-is_own : goal.returns-then-is_own
returns-then-is_own c = own_step c.args.table.now c.valid.ensures c.args.left.now c.args.row.now c.requires.held c.args.number c.args.upper.now c.is_own.result c.if-is_own.true c.is_own.ensures

pub is_rigid_below-requires-clause-ty : goal.is_rigid_below-requires-clause-ty
is_rigid_below-requires-clause-ty c = high_item c.args.table.now c.in-Some.high.now (high_at c.args.table.now c.valid.ensures c.args.left.now c.args.row.now c.requires.held c.args.number c.in-Some.high.now (there c.args.left.now c.args.row.now c.args.number _ _ _ c.bounds.ensures c.in-Some.ensures))

pub is_rigid_below-requires-clause-rigid : goal.is_rigid_below-requires-clause-rigid
is_rigid_below-requires-clause-rigid c = high_rigid c.args.table.now c.in-Some.high.now (high_at c.args.table.now c.valid.ensures c.args.left.now c.args.row.now c.requires.held c.args.number c.in-Some.high.now (there c.args.left.now c.args.row.now c.args.number _ _ _ c.bounds.ensures c.in-Some.ensures))

pub is_rigid_below-requires-in-None-clause-ty : goal.is_rigid_below-requires-in-None-clause-ty
is_rigid_below-requires-in-None-clause-ty c = high_item c.args.table.now W.Any (high_any c.args.table.now)

pub is_rigid_below-requires-in-None-clause-rigid : goal.is_rigid_below-requires-in-None-clause-rigid
is_rigid_below-requires-in-None-clause-rigid c = high_rigid c.args.table.now W.Any (high_any c.args.table.now)

pub returns-in-Some : goal.returns-in-Some
returns-in-Some c =
    high_step c.args.table.now c.valid.ensures c.args.left.now c.args.row.now c.requires.held c.args.number c.args.upper.now c.in-Some.high.now c.is_own.result c.is_rigid_below.result c.if-is_own.false c.requires.upper c.is_own.ensures (there c.args.left.now c.args.row.now c.args.number _ _ _ c.bounds.ensures c.in-Some.ensures) c.is_rigid_below.ensures

pub returns-in-None : goal.returns-in-None
returns-in-None c =
    high_step c.args.table.now c.valid.ensures c.args.left.now c.args.row.now c.requires.held c.args.number c.args.upper.now W.Any c.is_own.result c.is_rigid_below-in-None.result c.if-is_own.false c.requires.upper c.is_own.ensures (there c.args.left.now c.args.row.now c.args.number _ _ _ c.bounds.ensures c.in-None.ensures) c.is_rigid_below-in-None.ensures
