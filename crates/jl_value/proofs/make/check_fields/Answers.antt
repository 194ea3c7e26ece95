use Rattle.std.proofs.Common.{◌≡◌, ◌≤◌, true, length, arith}
use Rattle.jl_model.specs.Kept.{field_types}
use Rattle.jl_model.specs.Ancestors.{table_of}
use Rattle.jl_model.specs.Signature.{both_end}
use Rattle.jl_model.specs.Subtype.{put, at}
use Rattle.jl_value.proofs.SettledLemmas.{field_at}
use Rattle.jl_value.proofs.KeptLemmas.{part_type, ground_type, concrete_single}
use Rattle.jl_value.proofs.MakeLemmas.{field_type_at, fields_count, first_other, next_of, all_of}
use Rattle.jl_value.proofs.make.check_fields.Goals as goal

pub loop-i-init : goal.loop-i-init
loop-i-init c = both_end

pub is_of-requires-clause-lower_ground : goal.is_of-requires-clause-lower_ground
is_of-requires-clause-lower_ground c =
    ground_type c.args.table.now c.type_of-ty.result.now
    (part_type c.args.table.now c.valid.ensures c.args.parts.now c.loop-i.i c.index-parts-i.result c.type_of-ty.result.now c.requires.parts_valid (omega (arith, c.loop-i-test.true, c.requires.whole)) c.index-parts-i.is c.type_of-ty.ensures)

pub is_of-requires-clause-lower_single : goal.is_of-requires-clause-lower_single
is_of-requires-clause-lower_single c =
    concrete_single (table_of c.args.table.now) c.type_of-ty.result.now
    (part_type c.args.table.now c.valid.ensures c.args.parts.now c.loop-i.i c.index-parts-i.result c.type_of-ty.result.now c.requires.parts_valid (omega (arith, c.loop-i-test.true, c.requires.whole)) c.index-parts-i.is c.type_of-ty.ensures).concrete

pub is_of-requires-clause-field_kept : goal.is_of-requires-clause-field_kept
is_of-requires-clause-field_kept c =
    field_at c.args.table.now (field_types c.args.fields.now) c.loop-i.i c.index-fields-i.result.ty c.requires.fields_kept (omega (arith, c.loop-i-test.true, fields_count c.args.fields.now))
    (field_type_at c.args.fields.now c.loop-i.i c.index-fields-i.result c.loop-i-test.true c.index-fields-i.is)

pub returns-then-not-branch-clause-fault : goal.returns-then-not-branch-clause-fault
returns-then-not-branch-clause-fault c =
    first_other c.args.table.now c.args.parts.now c.args.fields.now (put (at c.args.args.now)) c.loop-i.i c.index-parts-i.result c.index-fields-i.result c.type_of-ty.result.now c.requires.whole
    c.loop-i.invariant c.loop-i-test.true c.index-parts-i.is c.index-fields-i.is c.type_of-ty.ensures
    (λ b. let r : c.in_ok-is_of.field-0 ≡ true = c.in_ok-is_of.ensures.1 b in cc)

pub loop-i-preserved : goal.loop-i-preserved
loop-i-preserved c =
    next_of c.args.table.now c.args.parts.now c.args.fields.now (put (at c.args.args.now)) c.loop-i.i c.index-parts-i.result c.index-fields-i.result c.type_of-ty.result.now c.requires.whole
    c.loop-i.invariant c.loop-i-test.true c.index-parts-i.is c.index-fields-i.is c.type_of-ty.ensures
    (c.in_ok-is_of.ensures.0 c.if-not-branch.false)

pub returns-clause-all : goal.returns-clause-all
returns-clause-all c =
    let le : length c.args.fields.now ≤ c.loop-i.i = omega (arith, c.loop-i-test.false) in
    all_of c.args.table.now c.args.parts.now c.args.fields.now (put (at c.args.args.now)) c.loop-i.i c.requires.whole c.loop-i.invariant le
