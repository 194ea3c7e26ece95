use Rattle.std.proofs.Common.{◌∙◌, sym}
use Rattle.jl_reflect.specs.Asked.{IsForm}
use Rattle.jl_reflect.proofs.FormLemmas.{found_some, not_closed, not_concrete}
use Rattle.jl_reflect.proofs.key_types.value_form.Goals as goal

pub returns-then-not-is_closed : goal.returns-then-not-is_closed
returns-then-not-is_closed c =
    let ds = c.args.table.now in
    let t = c.args.ty.now in
    not_closed ds c.valid.ensures t c.in-Some.form (found_some (IsForm ds t) c.in_ok-form.field-0 c.in-Some.form c.in-Some.is c.in_ok-form.ensures.form) c.is_closed.result c.is_closed.ensures c.if-not-is_closed.true

pub returns-then-not-is_concrete : goal.returns-then-not-is_concrete
returns-then-not-is_concrete c =
    let ds = c.args.table.now in
    let t = c.args.ty.now in
    not_concrete ds c.valid.ensures t c.in-Some.form (found_some (IsForm ds t) c.in_ok-form.field-0 c.in-Some.form c.in-Some.is c.in_ok-form.ensures.form) c.is_concrete.result c.is_concrete.ensures c.if-not-is_concrete.true

pub returns : goal.returns
returns c =
    let ds = c.args.table.now in
    let t = c.args.ty.now in
    let f = found_some (IsForm ds t) c.in_ok-form.field-0 c.in-Some.form c.in-Some.is c.in_ok-form.ensures.form in
    record {
      form = f;
      value = record {
        normal = f.form.normal;
        valid = c.in_ok-form.ensures.valid c.in-Some.form c.in-Some.is;
        closed = sym c.is_closed.ensures ∙ c.if-not-is_closed.false;
        concrete = sym c.is_concrete.ensures ∙ c.if-not-is_concrete.false;
        small = f.fits;
      };
    }
