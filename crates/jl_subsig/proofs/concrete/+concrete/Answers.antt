use Rattle.std.proofs.Common.{◌∙◌, sym, ap, arith, length}
use Rattle.std.specs.List.{list_all}
use Rattle.jl_model.specs.declared.ty.DeclKind.TheVariants.{Abstract, Struct}
use Rattle.jl_model.specs.Ancestors.{table_of}
use Rattle.jl_model.specs.Subtype.{is_concrete}
use Rattle.jl_model.specs.Valid.{is_known}
use Rattle.jl_types.proofs.GroundLemmas.{size-tuple, size-at, all-at}
use Rattle.jl_subsig.specs.Side.{held}
use Rattle.jl_subsume.proofs.SureLemmas.{concrete-tuple}
use Rattle.jl_subsig.proofs.SureSteps.{known_parts, kind_is, none_sure}
use Rattle.jl_subsig.proofs.concrete.+concrete.Goals as goal

pub is_concrete-are_concrete-requires : goal.is_concrete-are_concrete-requires
is_concrete-are_concrete-requires t c =
    let s = size-tuple c.args.ty.now c.in-Tuple.parts c.as_slice.result.now c.in-Tuple.is c.as_slice.ensures in
    (omega arith, (c.requires.told, known_parts (length c.args.table.now) c.args.ty.now c.in-Tuple.parts c.as_slice.result.now c.in-Tuple.is c.as_slice.ensures c.requires.known))

pub are_concrete-is_concrete-requires : goal.are_concrete-is_concrete-requires
are_concrete-is_concrete-requires t c =
    let s = size-at c.args.types.now c.loop-ty.ty-index c.ty-item.result c.loop-ty-test.true c.ty-item.is in
    (omega arith, (c.requires.told, all-at (is_known (length c.args.table.now)) c.args.types.now c.loop-ty.ty-index c.ty-item.result c.requires.known c.loop-ty-test.true c.ty-item.is))

pub is_concrete-returns-in-Tuple : goal.is_concrete-returns-in-Tuple
is_concrete-returns-in-Tuple t c =
    let f = is_concrete (table_of c.args.table.now) (held c.args.left.now c.args.row.now) in
    c.are_concrete.ensures ∙ ap (list_all f) c.as_slice.ensures ∙ sym (ap f c.in-Tuple.is ∙ concrete-tuple (table_of c.args.table.now) (held c.args.left.now c.args.row.now) c.in-Tuple.parts)

pub is_concrete-returns-in-Abstract : goal.is_concrete-returns-in-Abstract
is_concrete-returns-in-Abstract t c =
    sym (kind_is c.args.table.now (held c.args.left.now c.args.row.now) c.args.ty.now c.in-Nominal.name c.in-Nominal.field-1 c.decl.result.now Abstract c.in-Nominal.is c.decl.ensures c.in-Abstract.is)

pub is_concrete-returns-in-Struct : goal.is_concrete-returns-in-Struct
is_concrete-returns-in-Struct t c =
    sym (kind_is c.args.table.now (held c.args.left.now c.args.row.now) c.args.ty.now c.in-Nominal.name c.in-Nominal.field-1 c.decl.result.now Struct c.in-Nominal.is c.decl.ensures c.in-Struct.is)

pub is_concrete-returns-else-variable-diagonals : goal.is_concrete-returns-else-variable-diagonals
is_concrete-returns-else-variable-diagonals t c =
    none_sure c.args.table.now c.args.left.now c.args.row.now c.args.ty.now c.in-Var.number (length c.diagonals-diagonals.result.now) c.requires.told c.in-Var.is (ap length c.diagonals-diagonals.ensures) c.if-variable-diagonals.false
