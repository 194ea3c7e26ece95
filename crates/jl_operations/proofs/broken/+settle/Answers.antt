use Rattle.std.proofs.Common.{◌∙◌, sym, subst, arith}
use Rattle.std.proofs.lemmas.List.{drop_all}
use Rattle.jl_model.specs.Signature.{Both}
use Rattle.jl_types.proofs.GroundLemmas.{size-at}
use Rattle.jl_types.proofs.FormLemmas.{both_step, size-nominal}
use Rattle.jl_sig.proofs.FitLemmas.{argument_fit, argument_at, both_done}
use Rattle.jl_operations.specs.Broken.{IsSettledAs}
use Rattle.jl_operations.proofs.SettleLemmas.{closed_settled, nominal_settled, other_settled}
use Rattle.jl_operations.proofs.broken.+settle.Goals as goal

pub settle_argument-settle_arguments-requires : goal.settle_argument-settle_arguments-requires
settle_argument-settle_arguments-requires t c =
    let s = size-nominal c.args.ty.now c.in-Nominal.name c.in-Nominal.arguments c.as_slice.result.now c.in-Nominal.is c.as_slice.ensures in
    (omega arith, argument_fit c.args.table.now c.args.ty.now c.in-Nominal.name c.in-Nominal.arguments c.as_slice.result.now c.in-Nominal.is c.as_slice.ensures c.requires)

pub settle_argument-small_form-requires-clause-small : goal.settle_argument-small_form-requires-clause-small
settle_argument-small_form-requires-clause-small t c = c.requires.own (sym c.is_closed.ensures ∙ c.if-is_closed.true)

pub settle_argument-returns-then-is_closed : goal.settle_argument-returns-then-is_closed
settle_argument-returns-then-is_closed t c =
    closed_settled c.args.table.now c.args.ty.now c.in_ok-form.form (sym c.is_closed.ensures ∙ c.if-is_closed.true) c.in_ok-form.ensures.form c.in_ok-form.ensures.known

pub settle_argument-returns-in_ok-arguments-in-Nominal : goal.settle_argument-returns-in_ok-arguments-in-Nominal
settle_argument-returns-in_ok-arguments-in-Nominal t c =
    nominal_settled c.args.table.now c.args.ty.now c.in-Nominal.name c.in-Nominal.arguments c.as_slice.result.now c.in_ok-arguments-in-Nominal.arguments c.in-Nominal.is c.as_slice.ensures
    (sym c.is_closed.ensures ∙ c.if-is_closed.false) c.requires.known c.in_ok-arguments-in-Nominal.ensures

pub settle_argument-returns-in_ok-copy-in_default : goal.settle_argument-returns-in_ok-copy-in_default
settle_argument-returns-in_ok-copy-in_default t c =
    other_settled c.args.table.now c.args.ty.now c.in_ok-copy-in_default.copy c.requires (sym c.is_closed.ensures ∙ c.if-is_closed.false) c.in_default.not-Nominal c.in_ok-copy-in_default.ensures

pub settle_arguments-settle_argument-requires : goal.settle_arguments-settle_argument-requires
settle_arguments-settle_argument-requires t c =
    let s = size-at c.args.types.now c.loop-ty.ty-index c.ty-item.result c.loop-ty-test.true c.ty-item.is in
    (omega arith, argument_at c.args.table.now c.args.types.now c.loop-ty.ty-index c.ty-item.result c.requires c.loop-ty-test.true c.ty-item.is)

pub settle_arguments-loop-ty-preserved : goal.settle_arguments-loop-ty-preserved
settle_arguments-loop-ty-preserved t c =
    both_step (IsSettledAs c.args.table.now) c.args.types.now c.loop-ty.ty-index c.ty-item.result c.in_ok-settle_argument.field-0 c.loop-ty.items.items c.push.new.self.items c.loop-ty-test.true c.ty-item.is
    c.in_ok-settle_argument.ensures c.in_ok-push.ensures.items c.loop-ty.invariant

pub settle_arguments-returns : goal.settle_arguments-returns
settle_arguments-returns t c =
    let R = IsSettledAs c.args.table.now in
    subst (Both R c.args.types.now) (sym c.in_ok-settled.ensures)
    (both_done R c.args.types.now c.loop-ty.items.items c.loop-ty.ty-index (drop_all c.loop-ty.ty-index c.args.types.now c.loop-ty-test.false) c.loop-ty.invariant)
