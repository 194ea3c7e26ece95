use Rattle.jl_sig.proofs.RowLemmas.{root-union, root-tuple, root-nominal}
use Rattle.jl_sig.proofs.rows.+roots.Goals as goal

pub has_root-returns-in-Union : goal.has_root-returns-in-Union
has_root-returns-in-Union t c = root-union c.args.width c.args.variable c.args.ty.now c.in-Union.parts c.as_slice.result.now c.some_has_root.result c.in-Union.is c.as_slice.ensures c.some_has_root.ensures

pub has_root-returns-in-Tuple : goal.has_root-returns-in-Tuple
has_root-returns-in-Tuple t c = root-tuple c.args.width c.args.variable c.args.ty.now c.in-Tuple.parts c.as_slice-in-Tuple.result.now c.some_has_root-in-Tuple.result c.in-Tuple.is c.as_slice-in-Tuple.ensures c.some_has_root-in-Tuple.ensures

pub has_root-returns-in-Nominal : goal.has_root-returns-in-Nominal
has_root-returns-in-Nominal t c =
    root-nominal c.args.width c.args.variable c.args.ty.now c.in-Nominal.field-0 c.in-Nominal.arguments c.as_slice-in-Nominal.result.now c.some_has_root-in-Nominal.result c.in-Nominal.is c.as_slice-in-Nominal.ensures c.some_has_root-in-Nominal.ensures
