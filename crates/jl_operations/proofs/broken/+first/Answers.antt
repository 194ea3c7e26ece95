use Rattle.std.proofs.Common.{arith}
use Rattle.std.proofs.lemmas.List.{drop_all}
use Rattle.jl_types.proofs.GroundLemmas.{size-at, size-union, size-tuple}
use Rattle.jl_types.proofs.FormLemmas.{size-nominal}
use Rattle.jl_sig.proofs.FitLemmas.{members_fit, parts_fit, fit_at}
use Rattle.jl_operations.proofs.BrokenLemmas.{first_any, first_var, first_union, first_tuple, first_argument, first_own, nominal_parts, first_on, first_here, first_end, not_some}
use Rattle.jl_operations.proofs.broken.+first.Goals as goal

pub first_in-first_of_all-requires : goal.first_in-first_of_all-requires
first_in-first_of_all-requires t c =
    let s = size-union c.args.ty.now c.in-Union.members c.as_slice.result.now c.in-Union.is c.as_slice.ensures in
    (omega arith, members_fit c.args.table.now c.args.ty.now c.in-Union.members c.as_slice.result.now c.in-Union.is c.as_slice.ensures c.requires)

pub first_in-first_of_all-requires-in-Tuple : goal.first_in-first_of_all-requires-in-Tuple
first_in-first_of_all-requires-in-Tuple t c =
    let s = size-tuple c.args.ty.now c.in-Tuple.parts c.as_slice-in-Tuple.result.now c.in-Tuple.is c.as_slice-in-Tuple.ensures in
    (omega arith, parts_fit c.args.table.now c.args.ty.now c.in-Tuple.parts c.as_slice-in-Tuple.result.now c.in-Tuple.is c.as_slice-in-Tuple.ensures c.requires)

pub first_in-first_of_all-requires-in-Nominal : goal.first_in-first_of_all-requires-in-Nominal
first_in-first_of_all-requires-in-Nominal t c =
    let s = size-nominal c.args.ty.now c.in-Nominal.name c.in-Nominal.arguments c.as_slice-arguments.result.now c.in-Nominal.is c.as_slice-arguments.ensures in
    (omega arith, nominal_parts c.args.table.now c.args.ty.now c.in-Nominal.name c.in-Nominal.arguments c.as_slice-arguments.result.now c.in-Nominal.is c.as_slice-arguments.ensures c.requires)

pub first_in-returns-in-Any : goal.first_in-returns-in-Any
first_in-returns-in-Any t c = first_any c.args.table.now c.args.ty.now c.in-Any.is

pub first_in-returns-in-Var : goal.first_in-returns-in-Var
first_in-returns-in-Var t c = first_var c.args.table.now c.args.ty.now c.in-Var.field-0 c.in-Var.is

pub first_in-returns-in_ok-found-in-Union : goal.first_in-returns-in_ok-found-in-Union
first_in-returns-in_ok-found-in-Union t c = first_union c.args.table.now c.args.ty.now c.in-Union.members c.as_slice.result.now c.in_ok-found-in-Union.found c.in-Union.is c.as_slice.ensures c.in_ok-found-in-Union.ensures

pub first_in-returns-in_ok-found-in-Tuple : goal.first_in-returns-in_ok-found-in-Tuple
first_in-returns-in_ok-found-in-Tuple t c = first_tuple c.args.table.now c.args.ty.now c.in-Tuple.parts c.as_slice-in-Tuple.result.now c.in_ok-found-in-Tuple.found c.in-Tuple.is c.as_slice-in-Tuple.ensures c.in_ok-found-in-Tuple.ensures

pub first_of_all-first_in-requires : goal.first_of_all-first_in-requires
first_of_all-first_in-requires t c =
    let s = size-at c.args.types.now c.loop-ty.ty-index c.ty-item.result c.loop-ty-test.true c.ty-item.is in
    (omega arith, fit_at c.args.table.now c.args.types.now c.loop-ty.ty-index c.ty-item.result c.requires c.loop-ty-test.true c.ty-item.is)

pub first_of_all-returns : goal.first_of_all-returns
first_of_all-returns t c = first_end c.args.table.now c.args.types.now c.loop-ty.ty-index (drop_all c.loop-ty.ty-index c.args.types.now c.loop-ty-test.false) c.loop-ty.invariant

pub first_in-returns-in-Some : goal.first_in-returns-in-Some
first_in-returns-in-Some t c =
    first_argument c.args.table.now c.args.ty.now c.in-Nominal.name c.in-Nominal.arguments c.as_slice-arguments.result.now c.in-Some.found c.in_ok-found-in-Nominal.field-0 c.in-Nominal.is c.as_slice-arguments.ensures
    c.in_ok-found-in-Nominal.ensures c.in-Some.is

pub first_in-returns-in_ok-own-in-None : goal.first_in-returns-in_ok-own-in-None
first_in-returns-in_ok-own-in-None t c =
    first_own c.args.table.now c.args.ty.now c.in-Nominal.name c.in-Nominal.arguments c.as_slice-arguments.result.now c.in_ok-found-in-Nominal.field-0 c.in_ok-own-in-None.own c.in-Nominal.is c.as_slice-arguments.ensures
    c.in_ok-found-in-Nominal.ensures c.in-None.is c.in_ok-own-in-None.ensures

pub first_of_all-returns-in-Some : goal.first_of_all-returns-in-Some
first_of_all-returns-in-Some t c =
    first_here c.args.table.now c.args.types.now c.loop-ty.ty-index c.ty-item.result c.in-Some.found c.in_ok-found.field-0 c.loop-ty-test.true c.ty-item.is c.in_ok-found.ensures c.in-Some.is c.loop-ty.invariant

pub first_of_all-loop-ty-preserved : goal.first_of_all-loop-ty-preserved
first_of_all-loop-ty-preserved t c =
    first_on c.args.table.now c.args.types.now c.loop-ty.ty-index c.ty-item.result c.in_ok-found.field-0 c.loop-ty-test.true c.ty-item.is c.in_ok-found.ensures (not_some c.in_ok-found.field-0 c.in_default.not-Some) c.loop-ty.invariant
