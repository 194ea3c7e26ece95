use Rattle.std.proofs.Common.{◌∙◌, sym, ap, subst, arith, Err}
use Rattle.jl_model.specs.Signature.{Both}
use Rattle.jl_model.specs.Refusals.{bound_types}
use Rattle.jl_model.specs.SigRefusals.{arguments_in, TooManyParameters}
use Rattle.jl_sig.specs.Parts.{all_given}
use Rattle.jl_sig.specs.Forms.{IsBoundForm, AreFormed}
use Rattle.jl_match.proofs.MakeLemmas.{forms_ground, crossed_written, arguments_ground}
use Rattle.jl_body.proofs.CheckLemmas.{well_written, not_crossed, one_outside, none_outside}
use Rattle.jl_body.proofs.check.check_beside.Goals as goal

pub returns-in-Err-TypeLimit : goal.returns-in-Err-TypeLimit
returns-in-Err-TypeLimit c =
    let ds = c.args.table.now in
    let t = c.args.written.now in
    let few : TooManyParameters t → ⊥ = λ h. omega (arith, c.len.ensures, c.if-len-gt-MOST_ARGUMENTS.false, h) in
    let w = well_written ds t c.args.plain.now c.as_slice.result.now c.are_placed.result c.in_ok-unused.unused c.are_counted.result c.requires.plain (c.as_slice.ensures.value ∙ c.in_ok-types.ensures)
    c.are_placed.ensures c.if-not-are_placed.false c.in_ok-unused.ensures c.if-unused.false few c.are_counted.ensures c.if-not-are_counted.false in
    (w, c.in-Err-TypeLimit.ensures.limit (ap (λ z. Err z) c.in-Err-TypeLimit.field-0-is))

pub have_crossed-requires : goal.have_crossed-requires
have_crossed-requires c =
    let ds = c.args.table.now in
    let t = c.args.written.now in
    let b = subst (λ z. Both (IsBoundForm ds) (bound_types t.vars) (bound_types z)) (sym c.as_slice-3.ensures) c.in-Ok.ensures.forms.bounds in
    forms_ground ds c.valid.ensures t.vars c.as_slice-3.result.now b

pub returns-then-have_crossed : goal.returns-then-have_crossed
returns-then-have_crossed c =
    let ds = c.args.table.now in
    let t = c.args.written.now in
    let few : TooManyParameters t → ⊥ = λ h. omega (arith, c.len.ensures, c.if-len-gt-MOST_ARGUMENTS.false, h) in
    let w = well_written ds t c.args.plain.now c.as_slice.result.now c.are_placed.result c.in_ok-unused.unused c.are_counted.result c.requires.plain (c.as_slice.ensures.value ∙ c.in_ok-types.ensures)
    c.are_placed.ensures c.if-not-are_placed.false c.in_ok-unused.ensures c.if-unused.false few c.are_counted.ensures c.if-not-are_counted.false in
    let b = subst (λ z. Both (IsBoundForm ds) (bound_types t.vars) (bound_types z)) (sym c.as_slice-3.ensures) c.in-Ok.ensures.forms.bounds in
    (w, c.in-Ok.ensures.forms.small, crossed_written ds c.valid.ensures t.vars c.as_slice-3.result.now b (c.have_crossed.ensures.0 c.if-have_crossed.true))

pub have_outside-requires : goal.have_outside-requires
have_outside-requires c =
    let ds = c.args.table.now in
    let t = c.args.written.now in
    let a = subst (λ z. AreFormed ds (arguments_in t) (all_given z)) (sym c.as_slice-4.ensures.value) c.in-Ok.ensures.forms.arguments in
    arguments_ground ds c.valid.ensures (arguments_in t) c.as_slice-4.result.now a

pub returns-then-have_outside : goal.returns-then-have_outside
returns-then-have_outside c =
    let ds = c.args.table.now in
    let t = c.args.written.now in
    let few : TooManyParameters t → ⊥ = λ h. omega (arith, c.len.ensures, c.if-len-gt-MOST_ARGUMENTS.false, h) in
    let w = well_written ds t c.args.plain.now c.as_slice.result.now c.are_placed.result c.in_ok-unused.unused c.are_counted.result c.requires.plain (c.as_slice.ensures.value ∙ c.in_ok-types.ensures)
    c.are_placed.ensures c.if-not-are_placed.false c.in_ok-unused.ensures c.if-unused.false few c.are_counted.ensures c.if-not-are_counted.false in
    let b = subst (λ z. Both (IsBoundForm ds) (bound_types t.vars) (bound_types z)) (sym c.as_slice-3.ensures) c.in-Ok.ensures.forms.bounds in
    let a = subst (λ z. AreFormed ds (arguments_in t) (all_given z)) (sym c.as_slice-4.ensures.value) c.in-Ok.ensures.forms.arguments in
    let o = not_crossed ds c.valid.ensures t c.as_slice-3.result.now c.have_crossed.result b c.have_crossed.ensures c.if-have_crossed.false in
    (w, c.in-Ok.ensures.forms.small, o, one_outside ds c.valid.ensures t (all_given c.as_slice-4.result.now) c.have_outside.result a c.have_outside.ensures c.if-have_outside.true)

pub returns : goal.returns
returns c =
    let ds = c.args.table.now in
    let t = c.args.written.now in
    let few : TooManyParameters t → ⊥ = λ h. omega (arith, c.len.ensures, c.if-len-gt-MOST_ARGUMENTS.false, h) in
    let w = well_written ds t c.args.plain.now c.as_slice.result.now c.are_placed.result c.in_ok-unused.unused c.are_counted.result c.requires.plain (c.as_slice.ensures.value ∙ c.in_ok-types.ensures)
    c.are_placed.ensures c.if-not-are_placed.false c.in_ok-unused.ensures c.if-unused.false few c.are_counted.ensures c.if-not-are_counted.false in
    let b = subst (λ z. Both (IsBoundForm ds) (bound_types t.vars) (bound_types z)) (sym c.as_slice-3.ensures) c.in-Ok.ensures.forms.bounds in
    let a = subst (λ z. AreFormed ds (arguments_in t) (all_given z)) (sym c.as_slice-4.ensures.value) c.in-Ok.ensures.forms.arguments in
    let o = not_crossed ds c.valid.ensures t c.as_slice-3.result.now c.have_crossed.result b c.have_crossed.ensures c.if-have_crossed.false in
    record {
      placed = w.placed;
      used = w.used;
      few = w.few;
      counted = w.counted;
      small = c.in-Ok.ensures.forms.small;
      ordered = o;
      within = none_outside ds c.valid.ensures t (all_given c.as_slice-4.result.now) c.have_outside.result a c.have_outside.ensures c.if-have_outside.false;
    }
