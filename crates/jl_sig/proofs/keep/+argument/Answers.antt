use Rattle.std.proofs.Common.{◌∙◌, sym, subst, arith}
use Rattle.std.proofs.lemmas.List.{drop_all}
use Rattle.jl_model.specs.Ancestors.{table_of}
use Rattle.jl_model.specs.Signature.{Both}
use Rattle.jl_model.specs.Normal.{IsNormalForm}
use Rattle.jl_types.proofs.GroundLemmas.{size-at}
use Rattle.jl_types.proofs.FormLemmas.{both_step, size-nominal}
use Rattle.jl_sig.proofs.FitLemmas.{argument_fit, argument_at, other_form, nominal_kept, both_done}
use Rattle.jl_sig.proofs.keep.+argument.Goals as goal

pub keep_argument-keep_arguments-requires : goal.keep_argument-keep_arguments-requires
keep_argument-keep_arguments-requires t c =
    let s = size-nominal c.args.ty.now c.in-Nominal.name c.in-Nominal.arguments c.as_slice.result.now c.in-Nominal.is c.as_slice.ensures in
    (omega arith, argument_fit c.args.table.now c.args.ty.now c.in-Nominal.name c.in-Nominal.arguments c.as_slice.result.now c.in-Nominal.is c.as_slice.ensures c.requires)

pub keep_argument-returns-in_ok-arguments-in-Nominal : goal.keep_argument-returns-in_ok-arguments-in-Nominal
keep_argument-returns-in_ok-arguments-in-Nominal t c =
    nominal_kept c.args.table.now c.args.ty.now c.in-Nominal.name c.in-Nominal.arguments c.as_slice.result.now c.in_ok-arguments-in-Nominal.arguments c.in-Nominal.is c.as_slice.ensures c.in_ok-arguments-in-Nominal.ensures

pub keep_argument-returns-in_ok-copy-in_default : goal.keep_argument-returns-in_ok-copy-in_default
keep_argument-returns-in_ok-copy-in_default t c =
    other_form c.args.table.now c.args.ty.now c.in_ok-copy-in_default.copy c.requires (sym c.is_closed.ensures ∙ c.if-is_closed.false) c.in_default.not-Nominal c.in_ok-copy-in_default.ensures

pub keep_arguments-keep_argument-requires : goal.keep_arguments-keep_argument-requires
keep_arguments-keep_argument-requires t c =
    let s = size-at c.args.types.now c.loop-ty.ty-index c.ty-item.result c.loop-ty-test.true c.ty-item.is in
    (omega arith, argument_at c.args.table.now c.args.types.now c.loop-ty.ty-index c.ty-item.result c.requires c.loop-ty-test.true c.ty-item.is)

pub keep_arguments-loop-ty-preserved : goal.keep_arguments-loop-ty-preserved
keep_arguments-loop-ty-preserved t c =
    both_step (IsNormalForm (table_of c.args.table.now)) c.args.types.now c.loop-ty.ty-index c.ty-item.result c.in_ok-keep_argument.field-0 c.loop-ty.items.items c.push.new.self.items c.loop-ty-test.true c.ty-item.is
    c.in_ok-keep_argument.ensures c.in_ok-push.ensures.items c.loop-ty.invariant

pub keep_arguments-returns : goal.keep_arguments-returns
keep_arguments-returns t c =
    let R = IsNormalForm (table_of c.args.table.now) in
    subst (Both R c.args.types.now) (sym c.in_ok-kept.ensures)
    (both_done R c.args.types.now c.loop-ty.items.items c.loop-ty.ty-index (drop_all c.loop-ty.ty-index c.args.types.now c.loop-ty-test.false) c.loop-ty.invariant)
