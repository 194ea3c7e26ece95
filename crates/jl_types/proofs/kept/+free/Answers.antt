use Rattle.jl_types.proofs.PlaceLemmas.{free_union, free_tuple, free_other}
use Rattle.jl_types.proofs.kept.+free.Goals as goal

pub is_free-returns-in-Union : goal.is_free-returns-in-Union
is_free-returns-in-Union t c = free_union c.args.own c.args.ty.now c.in-Union.members c.as_slice.result.now c.are_free.result c.in-Union.is c.as_slice.ensures c.are_free.ensures

pub is_free-returns-in-Tuple : goal.is_free-returns-in-Tuple
is_free-returns-in-Tuple t c = free_tuple c.args.own c.args.ty.now c.in-Tuple.parts c.as_slice-in-Tuple.result.now c.are_free-in-Tuple.result c.in-Tuple.is c.as_slice-in-Tuple.ensures c.are_free-in-Tuple.ensures

pub is_free-returns-then-name-own : goal.is_free-returns-then-name-own
is_free-returns-then-name-own t c =
    free_other c.args.own c.args.ty.now c.in-Nominal.name c.in-Nominal.arguments c.as_slice-then-name-own.result.now c.are_free-then-name-own.result c.in-Nominal.is c.if-name-own.true
    c.as_slice-then-name-own.ensures c.are_free-then-name-own.ensures
