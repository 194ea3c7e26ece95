use Rattle.std.proofs.Common.{◌∙◌, ◌<◌, ap, refl, subst, length, get_or, ◌≤◌}
use Rattle.jl_sig.specs.Parts.{given}
use Rattle.jl_sig.proofs.FormSteps.{ground_at}
use Rattle.jl_sig.proofs.DeclaredBounds.{declared_ground, free_between, no_type, no_place}
use Rattle.jl_sig.proofs.forms.is_between.Goals as goal

pub returns-then-argument-count : goal.returns-then-argument-count
returns-then-argument-count c =
    let ds = c.args.table.now in
    let a = c.args.argument.now in
    ((λ h. free_between ds a.ty _ (no_type ds (given a) (subst (λ z. z ≤ a.of) c.count.ensures c.if-argument-count.true))), (λ h. refl))

pub returns-then-argument-bounds : goal.returns-then-argument-bounds
returns-then-argument-bounds c =
    let ds = c.args.table.now in
    let a = c.args.argument.now in
    ((λ h. free_between ds a.ty _ (no_place ds (given a) c.decl.result.now c.as_slice-bounds.result.now c.decl.ensures c.as_slice-bounds.ensures c.if-argument-bounds.true)), (λ h. refl))

pub ground_sub-requires-clause-a_ground : goal.ground_sub-requires-clause-a_ground
ground_sub-requires-clause-a_ground c =
    let ds = c.args.table.now in
    let a = c.args.argument.now in
    let e = c.as_slice-bounds.ensures in
    let b = c.index-bounds-argument.result in
    (ground_at ds c.decl.result.now.params a.place b (declared_ground ds c.valid.ensures a.of c.decl.result.now c.decl.ensures)
    (subst (λ z. a.place < length z) e c.if-argument-bounds.false) (c.index-bounds-argument.is ∙ ap (λ z. get_or z a.place b) e)).0

pub ground_sub-requires-then-ground_sub-clause-b_ground : goal.ground_sub-requires-then-ground_sub-clause-b_ground
ground_sub-requires-then-ground_sub-clause-b_ground c =
    let ds = c.args.table.now in
    let a = c.args.argument.now in
    let e = c.as_slice-bounds.ensures in
    let b = c.index-bounds-argument.result in
    (ground_at ds c.decl.result.now.params a.place b (declared_ground ds c.valid.ensures a.of c.decl.result.now c.decl.ensures)
    (subst (λ z. a.place < length z) e c.if-argument-bounds.false) (c.index-bounds-argument.is ∙ ap (λ z. get_or z a.place b) e)).1
