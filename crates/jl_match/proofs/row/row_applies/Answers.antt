use Rattle.std.proofs.Common.{◌≡◌, ◌∙◌, sym, ap, subst, ℕ, [], true}
use Rattle.jl_model.specs.declared.ty.Ty.{Ty}
use Rattle.jl_model.specs.Ancestors.{table_of}
use Rattle.jl_model.specs.Rows.{vars_in}
use Rattle.jl_model.specs.Subtype.{opaque, at}
use Rattle.jl_model.specs.Signature.{Both, Meets, Meet, Serves}
use Rattle.jl_model.specs.Found.{found}
use Rattle.jl_match.specs.KeptRow.{row_of, AreGround}
use Rattle.jl_match.proofs.PlainLemmas.{values_ground, values_plain}
use Rattle.jl_match.proofs.RowLemmas.{kept_parts, fits_of}
use Rattle.jl_match.proofs.FoundLemmas.{found_fits}
use Rattle.jl_match.proofs.TestLemmas.{meet_both, both_meet}
use Rattle.jl_match.proofs.row.row_applies.Goals as goal

pub serve-requires-clause-values : goal.serve-requires-clause-values
serve-requires-clause-values c =
    subst (AreGround c.args.table.now) (sym c.as_slice.ensures.value)
    (values_ground c.args.table.now c.valid.ensures c.args.signature.now (row_of c.args.parts.now c.args.chosen.now) c.args.types.now c.in_ok-values.values.items c.requires.row c.requires.types c.in_ok-values.ensures.found)

pub meet_all-requires-clause-values : goal.meet_all-requires-clause-values
meet_all-requires-clause-values c =
    subst (AreGround c.args.table.now) (sym c.as_slice-2.ensures.value)
    (values_ground c.args.table.now c.valid.ensures c.args.signature.now (row_of c.args.parts.now c.args.chosen.now) c.args.types.now c.in_ok-values.values.items c.requires.row c.requires.types c.in_ok-values.ensures.found)

pub meet_all-requires-clause-parts : goal.meet_all-requires-clause-parts
meet_all-requires-clause-parts c = kept_parts c.args.table.now c.args.signature.now (row_of c.args.parts.now c.args.chosen.now) c.requires.row

pub returns-then-not-branch-clause-complete : goal.returns-then-not-branch-clause-complete
returns-then-not-branch-clause-complete c f fits =
    let n = table_of c.args.table.now in
    let s = c.args.signature.now in
    let r = row_of c.args.parts.now c.args.chosen.now in
    let q = found_fits c.args.table.now c.valid.ensures s r c.args.types.now c.requires.row c.requires.types f fits in
    let e = ap at c.as_slice.ensures.value ∙ c.in_ok-values.ensures.found in
    let k : Serves n opaque s r (at c.as_slice.result.now) = subst (Serves n opaque s r) (sym e) q.0 in
    let y : c.in_ok-serve.field-0 ≡ true = c.in_ok-serve.ensures.1 k in
    sym c.if-not-branch.true ∙ y

pub returns-clause-complete : goal.returns-clause-complete
returns-clause-complete c f fits =
    let n = table_of c.args.table.now in
    let s = c.args.signature.now in
    let r = row_of c.args.parts.now c.args.chosen.now in
    let q = found_fits c.args.table.now c.valid.ensures s r c.args.types.now c.requires.row c.requires.types f fits in
    let e = ap at c.as_slice-2.ensures.value ∙ c.in_ok-values.ensures.found in
    let k : Meet n opaque s (at c.as_slice-2.result.now) c.args.types.now c.args.parts.now = subst (λ h. Meet n opaque s h c.args.types.now c.args.parts.now) (sym e) q.1 in
    c.in_ok-meets.ensures.1 (meet_both n s (at c.as_slice-2.result.now) c.args.types.now c.args.parts.now k)

pub returns-clause-sound : goal.returns-clause-sound
returns-clause-sound c holds =
    let n = table_of c.args.table.now in
    let s = c.args.signature.now in
    let r = row_of c.args.parts.now c.args.chosen.now in
    let h : ℕ → Ty = found n opaque s r c.args.types.now in
    let a : at c.as_slice.result.now ≡ h = ap at c.as_slice.ensures.value ∙ c.in_ok-values.ensures.found in
    let b : at c.as_slice-2.result.now ≡ h = ap at c.as_slice-2.ensures.value ∙ c.in_ok-values.ensures.found in
    let k : Serves n opaque s r h = subst (Serves n opaque s r) a (c.in_ok-serve.ensures.0 c.if-not-branch.false) in
    let m : Both (Meets n opaque s h) c.args.types.now c.args.parts.now = subst (λ g. Both (Meets n opaque s g) c.args.types.now c.args.parts.now) b (c.in_ok-meets.ensures.0 holds) in
    fits_of c.args.table.now c.valid.ensures s r c.args.types.now c.requires.row c.requires.types h k (both_meet n s h c.args.types.now c.args.parts.now m)

pub returns-clause-closed : goal.returns-clause-closed
returns-clause-closed c holds v =
    let e = c.in_ok-values.ensures.found in
    subst (λ (h : ℕ → Ty). vars_in (h v) ≡ []) e
    (values_plain c.args.table.now c.valid.ensures c.args.signature.now (row_of c.args.parts.now c.args.chosen.now) c.args.types.now c.in_ok-values.values.items c.requires.row c.requires.types c.in_ok-values.ensures.found v).closed
