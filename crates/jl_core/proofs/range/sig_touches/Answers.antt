use Rattle.std.proofs.Common.{sym, subst, refl}
use Rattle.jl_match.specs.KeptRow.{AreConcrete}
use Rattle.jl_core.proofs.RangeLemmas.{concrete_all, applies_to, to_applies}
use Rattle.jl_core.proofs.range.sig_touches.Goals as goal

pub applies-requires-clause-types : goal.applies-requires-clause-types
applies-requires-clause-types c =
    subst (λ ds. AreConcrete ds c.as_slice.result.now) (sym c.table.ensures) (subst (AreConcrete _) (sym c.as_slice.ensures) (concrete_all _ c.args.key.now.types c.requires.key.types))

pub returns-in_default : goal.returns-in_default
returns-in_default c = (
  λ t. cc,
  λ t. absurd (c.in_ok-applies.ensures.none c.in_default.is (to_applies c.args.ready.now c.args.key.now _ c.table.result.now c.as_slice.result.now c.table.ensures c.as_slice.ensures t.1)),
)

pub returns : goal.returns
returns c = (
  λ t. (
    c.if-function-key.false,
    applies_to c.args.ready.now c.args.key.now _ c.table.result.now c.as_slice.result.now c.table.ensures c.as_slice.ensures (c.in_ok-applies.ensures.applies c.in-Some.field-0 c.in-Some.is),
  ),
  λ t. refl,
)
