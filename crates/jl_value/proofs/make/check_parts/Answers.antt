use Rattle.std.proofs.Common.{◌≡◌, ◌∙◌, length, arith, sym, ap, subst, map}
use Rattle.std.proofs.lemmas.Result.{IfErr-weaker}
use Rattle.jl_model.specs.Kept.{field_types}
use Rattle.jl_model.specs.Subtype.{put, at}
use Rattle.jl_program.specs.Meaning.{datum}
use Rattle.jl_value.specs.Fields.{AreFieldTypes}
use Rattle.jl_value.proofs.DeclaredFields.{declared_fields}
use Rattle.jl_value.proofs.SettledLemmas.{nominal_arguments}
use Rattle.jl_value.proofs.KeptLemmas.{ground_type}
use Rattle.jl_value.proofs.MakeLemmas.{fields_are, other_parts, data_long}
use Rattle.jl_value.proofs.make.check_parts.Goals as goal

pub check_fields-requires-clause-few : goal.check_fields-requires-clause-few
check_fields-requires-clause-few c =
    let g = declared_fields c.args.table.now c.valid.ensures c.in-Nominal.name c.decl.result.now c.decl.ensures in
    omega (arith, g.few, ap length c.as_slice-fields.ensures)

pub check_fields-requires-clause-fields_kept : goal.check_fields-requires-clause-fields_kept
check_fields-requires-clause-fields_kept c =
    let g = declared_fields c.args.table.now c.valid.ensures c.in-Nominal.name c.decl.result.now c.decl.ensures in
    subst (λ z. AreFieldTypes c.args.table.now (field_types z)) (sym c.as_slice-fields.ensures) g.kept

pub check_fields-requires-clause-args_ground : goal.check_fields-requires-clause-args_ground
check_fields-requires-clause-args_ground c =
    nominal_arguments c.args.table.now c.args.ty.now c.in-Nominal.name c.in-Nominal.args c.as_slice.result.now c.in-Nominal.is c.as_slice.ensures (ground_type c.args.table.now c.args.ty.now c.requires.struct_type.value_type)

pub returns-clause-count : goal.returns-clause-count
returns-clause-count c =
    let f = fields_are c.args.table.now c.args.ty.now c.in-Nominal.name c.in-Nominal.args c.as_slice.result.now c.decl.result.now c.as_slice-fields.result.now c.in-Nominal.is c.as_slice.ensures c.decl.ensures c.as_slice-fields.ensures in
    let same : length c.as_slice-fields.result.now ≡ length c.args.parts.now = omega (arith, c.if-fields-parts.false) in
    λ n. absurd (n (data_long c.args.parts.now c.as_slice-fields.result.now (put (at c.as_slice.result.now)) (sym same) ∙ ap length (sym f)))

pub returns-clause-fault : goal.returns-clause-fault
returns-clause-fault c =
    let f = fields_are c.args.table.now c.args.ty.now c.in-Nominal.name c.in-Nominal.args c.as_slice.result.now c.decl.result.now c.as_slice-fields.result.now c.in-Nominal.is c.as_slice.ensures c.decl.ensures c.as_slice-fields.ensures in
    let same : length c.as_slice-fields.result.now ≡ length c.args.parts.now = omega (arith, c.if-fields-parts.false) in
    IfErr-weaker c.check_fields.result _ _
    (λ e h. other_parts c.args.table.now (map datum c.args.parts.now) (map (put (at c.as_slice.result.now)) (field_types c.as_slice-fields.result.now)) _ e
    (data_long c.args.parts.now c.as_slice-fields.result.now (put (at c.as_slice.result.now)) (sym same)) f h)
    c.check_fields.ensures.fault
