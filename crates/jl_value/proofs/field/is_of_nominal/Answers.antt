use Rattle.std.proofs.Common.{refl, ap, sym, [], map}
use Rattle.jl_model.specs.declared.ty.Ty.TheViews as V
use Rattle.jl_model.specs.Subtype.{put, at}
use Rattle.jl_value.proofs.SettledLemmas.{nominal_ground}
use Rattle.jl_value.proofs.FieldLemmas.{own_name, no_name, nothing_in}
use Rattle.jl_value.proofs.field.is_of_nominal.Goals as goal

pub ground_sub-requires-clause-b_ground : goal.ground_sub-requires-clause-b_ground
ground_sub-requires-clause-b_ground c =
    nominal_ground c.args.table.now (V.Nominal c.args.name c.args.parts.now) c.args.name c.args.parts.now c.args.parts.now c.in_ok-put_all-in-Nominal.field-0 c.args.args.now
    refl refl c.in_ok-put_all-in-Nominal.ensures c.requires.field_kept c.requires.args_ground

pub returns-then-of-name : goal.returns-then-of-name
returns-then-of-name c =
    let ys = map (put (at c.args.args.now)) c.args.parts.now in
    let u = nominal_ground c.args.table.now (V.Nominal c.args.name c.args.parts.now) c.args.name c.args.parts.now c.args.parts.now ys c.args.args.now refl refl refl c.requires.field_kept c.requires.args_ground in
    own_name c.args.table.now c.valid.ensures c.args.lower.now c.in-Nominal.of c.args.name c.in-Nominal.xs c.as_slice.result.now ys c.same_all_put.result c.if-of-name.true c.in-Nominal.is c.as_slice.ensures
    c.requires.lower_ground c.requires.lower_single u c.same_all_put.ensures

pub is_of_plain-requires-clause-upper : goal.is_of_plain-requires-clause-upper
is_of_plain-requires-clause-upper c =
    nominal_ground c.args.table.now (V.Nominal c.args.name c.args.parts.now) c.args.name c.args.parts.now c.args.parts.now [] c.args.args.now
    refl refl (ap (map (put (at c.args.args.now))) (sym (nothing_in c.args.parts.now (sym c.if-is_empty.ensures)))) c.requires.field_kept c.requires.args_ground

pub returns-in_default : goal.returns-in_default
returns-in_default c =
    let ys = map (put (at c.args.args.now)) c.args.parts.now in
    let u = nominal_ground c.args.table.now (V.Nominal c.args.name c.args.parts.now) c.args.name c.args.parts.now c.args.parts.now ys c.args.args.now refl refl refl c.requires.field_kept c.requires.args_ground in
    no_name c.args.table.now c.valid.ensures c.args.lower.now c.args.name ys c.requires.lower_ground c.requires.lower_single u c.in_default.not-Nominal
