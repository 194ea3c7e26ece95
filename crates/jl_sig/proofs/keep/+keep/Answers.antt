use Rattle.std.proofs.Common.{sym, subst, arith}
use Rattle.std.proofs.lemmas.List.{drop_all}
use Rattle.jl_model.specs.Ancestors.{table_of}
use Rattle.jl_model.specs.Signature.{Both}
use Rattle.jl_model.specs.Normal.{IsNormalForm}
use Rattle.jl_types.proofs.GroundLemmas.{size-union, size-tuple, size-at}
use Rattle.jl_types.proofs.FormLemmas.{both_step, settle_any, settle_var, settle_union, settle_tuple, settle_nominal}
use Rattle.jl_sig.specs.Fit.{IsKeptAs}
use Rattle.jl_sig.proofs.FitLemmas.{members_fit, parts_fit, nominal_fit, fit_at, both_done}
use Rattle.jl_sig.proofs.keep.+keep.Goals as goal

pub keep-keep_all-requires : goal.keep-keep_all-requires
keep-keep_all-requires t c =
    let s = size-union c.args.ty.now c.in-Union.members c.as_slice.result.now c.in-Union.is c.as_slice.ensures in
    (omega arith, members_fit c.args.table.now c.args.ty.now c.in-Union.members c.as_slice.result.now c.in-Union.is c.as_slice.ensures c.requires)

pub keep-keep_all-requires-in-Tuple : goal.keep-keep_all-requires-in-Tuple
keep-keep_all-requires-in-Tuple t c =
    let s = size-tuple c.args.ty.now c.in-Tuple.parts c.as_slice-in-Tuple.result.now c.in-Tuple.is c.as_slice-in-Tuple.ensures in
    (omega arith, parts_fit c.args.table.now c.args.ty.now c.in-Tuple.parts c.as_slice-in-Tuple.result.now c.in-Tuple.is c.as_slice-in-Tuple.ensures c.requires)

pub keep-keep_arguments-requires : goal.keep-keep_arguments-requires
keep-keep_arguments-requires t c = nominal_fit c.args.table.now c.args.ty.now c.in-Nominal.name c.in-Nominal.arguments c.as_slice-in-Nominal.result.now c.in-Nominal.is c.as_slice-in-Nominal.ensures c.requires

pub keep-returns-in-Any : goal.keep-returns-in-Any
keep-returns-in-Any t c = settle_any (IsNormalForm (table_of c.args.table.now)) c.args.ty.now c.in-Any.is

pub keep-returns-in-Var : goal.keep-returns-in-Var
keep-returns-in-Var t c = settle_var (IsNormalForm (table_of c.args.table.now)) c.args.ty.now c.in-Var.variable c.in-Var.is

pub keep-returns-in_ok-members-in-Union : goal.keep-returns-in_ok-members-in-Union
keep-returns-in_ok-members-in-Union t c =
    settle_union (IsNormalForm (table_of c.args.table.now)) c.args.ty.now c.in-Union.members c.as_slice.result.now c.in_ok-members-in-Union.members c.in-Union.is c.as_slice.ensures c.in_ok-members-in-Union.ensures

pub keep-returns-in_ok-parts-in-Tuple : goal.keep-returns-in_ok-parts-in-Tuple
keep-returns-in_ok-parts-in-Tuple t c =
    settle_tuple (IsNormalForm (table_of c.args.table.now)) c.args.ty.now c.in-Tuple.parts c.as_slice-in-Tuple.result.now c.in_ok-parts-in-Tuple.parts c.in-Tuple.is c.as_slice-in-Tuple.ensures c.in_ok-parts-in-Tuple.ensures

pub keep-returns-in_ok-arguments-in-Nominal : goal.keep-returns-in_ok-arguments-in-Nominal
keep-returns-in_ok-arguments-in-Nominal t c =
    settle_nominal (IsNormalForm (table_of c.args.table.now)) c.args.ty.now c.in-Nominal.name c.in-Nominal.arguments c.as_slice-in-Nominal.result.now c.in_ok-arguments-in-Nominal.arguments c.in-Nominal.is c.as_slice-in-Nominal.ensures
    c.in_ok-arguments-in-Nominal.ensures

pub keep_all-keep-requires : goal.keep_all-keep-requires
keep_all-keep-requires t c =
    let s = size-at c.args.types.now c.loop-ty.ty-index c.ty-item.result c.loop-ty-test.true c.ty-item.is in
    (omega arith, fit_at c.args.table.now c.args.types.now c.loop-ty.ty-index c.ty-item.result c.requires c.loop-ty-test.true c.ty-item.is)

pub keep_all-loop-ty-preserved : goal.keep_all-loop-ty-preserved
keep_all-loop-ty-preserved t c =
    both_step (IsKeptAs c.args.table.now) c.args.types.now c.loop-ty.ty-index c.ty-item.result c.in_ok-keep.field-0 c.loop-ty.items.items c.push.new.self.items c.loop-ty-test.true c.ty-item.is
    c.in_ok-keep.ensures c.in_ok-push.ensures.items c.loop-ty.invariant

pub keep_all-returns : goal.keep_all-returns
keep_all-returns t c =
    subst (Both (IsKeptAs c.args.table.now) c.args.types.now) (sym c.in_ok-kept.ensures)
    (both_done (IsKeptAs c.args.table.now) c.args.types.now c.loop-ty.items.items c.loop-ty.ty-index (drop_all c.loop-ty.ty-index c.args.types.now c.loop-ty-test.false) c.loop-ty.invariant)
