use Rattle.std.proofs.Common.{◌≡◌, ◌∙◌, sym, ap, subst, true}
use Rattle.jl_model.specs.Ancestors.{table_of}
use Rattle.jl_model.specs.Rows.{width}
use Rattle.jl_model.specs.Subtype.{at}
use Rattle.jl_model.specs.Signature.{is_diagonal, Serves, Meets, Both}
use Rattle.jl_sig.specs.SigParts.{kept_of}
use Rattle.jl_model.specs.Found.{found}
use Rattle.jl_subsig.specs.Side.{row_of, held, sided, AreLeftParts, AreRightParts, AreValues}
use Rattle.jl_subsig.proofs.SideLemmas.{left_parts, right_parts, right_row}
use Rattle.jl_subsig.proofs.FoundItems.{values_found}
use Rattle.jl_subsig.proofs.MeetSteps.{meet_both, both_meet}
use Rattle.jl_subsig.proofs.RowSteps.{complete, sound}
use Rattle.jl_subsig.proofs.row.row_below.Goals as goal

pub serve-requires-clause-row : goal.serve-requires-clause-row
serve-requires-clause-row c = right_row c.args.table.now c.valid.ensures c.args.right.now c.args.other.now c.requires.right

pub serve-requires-clause-values : goal.serve-requires-clause-values
serve-requires-clause-values c =
    subst (AreValues c.args.table.now (width (kept_of c.args.right.now))) (sym c.as_slice.ensures.value)
    (values_found c.args.table.now c.valid.ensures c.args.left.now c.args.row.now c.requires.left c.args.right.now c.args.other.now c.requires.right c.in_ok-values.values.items c.in_ok-values.ensures.long c.in_ok-values.ensures.found)

pub meet_all-requires-clause-right : goal.meet_all-requires-clause-right
meet_all-requires-clause-right c = record { long = c.requires.right.held.told.long.diagonals; wide = c.requires.right.held.wide; kinds = λ v. c.requires.right.held.told.diagonals v ∙ ap is_diagonal (sym (c.requires.right.held.kinds v)) }

pub meet_all-requires-clause-values : goal.meet_all-requires-clause-values
meet_all-requires-clause-values c =
    subst (AreValues c.args.table.now (width (kept_of c.args.right.now))) (sym c.as_slice-2.ensures.value)
    (values_found c.args.table.now c.valid.ensures c.args.left.now c.args.row.now c.requires.left c.args.right.now c.args.other.now c.requires.right c.in_ok-values.values.items c.in_ok-values.ensures.long c.in_ok-values.ensures.found)

pub meet_all-requires-clause-uppers : goal.meet_all-requires-clause-uppers
meet_all-requires-clause-uppers c =
    subst (AreRightParts (table_of c.args.table.now) (sided c.args.right.now)) (sym c.as_slice-3.ensures) (right_parts c.args.table.now c.valid.ensures c.args.right.now c.args.other.now c.requires.right)

pub meet_all-requires-clause-types : goal.meet_all-requires-clause-types
meet_all-requires-clause-types c =
    subst (AreLeftParts c.args.table.now (held c.args.left.now c.args.row.now)) (sym c.as_slice-4.ensures) (left_parts c.args.table.now c.valid.ensures c.args.left.now c.args.row.now c.requires.left)

pub returns-then-not-serves : goal.returns-then-not-serves
returns-then-not-serves c = (
  (λ h. cc),
  (λ b.
      let k = complete c.args.table.now c.valid.ensures c.args.left.now c.args.row.now c.requires.left c.args.right.now c.args.other.now c.requires.right b in
      let e = ap at c.as_slice.ensures.value ∙ c.in_ok-values.ensures.found in
      let x : Serves (table_of c.args.table.now) (held c.args.left.now c.args.row.now) (sided c.args.right.now) (row_of c.args.other.now) (at c.as_slice.result.now) =
      subst (Serves (table_of c.args.table.now) (held c.args.left.now c.args.row.now) (sided c.args.right.now) (row_of c.args.other.now)) (sym e) k.0 in
      let y : c.in_ok-serves.serves ≡ true = c.in_ok-serves.ensures.1 x in let z = c.if-not-serves.true in cc),
)

pub returns : goal.returns
returns c =
    let n = table_of c.args.table.now in
    let g = held c.args.left.now c.args.row.now in
    let b = sided c.args.right.now in
    let q = row_of c.args.other.now in
    let f = found n g b q c.args.row.now.parts in
    let e = ap at c.as_slice.ensures.value ∙ c.in_ok-values.ensures.found in
    let i = ap at c.as_slice-2.ensures.value ∙ c.in_ok-values.ensures.found in
    let s : Serves n g b q f = subst (Serves n g b q) e (c.in_ok-serves.ensures.0 c.if-not-serves.false) in
    let to : Both (Meets n g b (at c.as_slice-2.result.now)) c.as_slice-4.result.now c.as_slice-3.result.now → Both (Meets n g b f) c.args.row.now.parts c.args.other.now.parts =
    λ m. subst (λ z. Both (Meets n g b f) z c.args.other.now.parts) c.as_slice-4.ensures (subst (Both (Meets n g b f) c.as_slice-4.result.now) c.as_slice-3.ensures (subst (λ h. Both (Meets n g b h) c.as_slice-4.result.now c.as_slice-3.result.now) i m)) in
    let from : Both (Meets n g b f) c.args.row.now.parts c.args.other.now.parts → Both (Meets n g b (at c.as_slice-2.result.now)) c.as_slice-4.result.now c.as_slice-3.result.now =
    λ m. subst (λ h. Both (Meets n g b h) c.as_slice-4.result.now c.as_slice-3.result.now) (sym i)
    (subst (Both (Meets n g b f) c.as_slice-4.result.now) (sym c.as_slice-3.ensures) (subst (λ z. Both (Meets n g b f) z c.args.other.now.parts) (sym c.as_slice-4.ensures) m)) in (
      (λ h. sound c.args.table.now c.valid.ensures c.args.left.now c.args.row.now c.requires.left c.args.right.now c.args.other.now c.requires.right s
          (both_meet n g b f c.args.row.now.parts c.args.other.now.parts (to (c.in_ok-is_met.ensures.0 h)))),
      (λ x.
          let k = complete c.args.table.now c.valid.ensures c.args.left.now c.args.row.now c.requires.left c.args.right.now c.args.other.now c.requires.right x in
          c.in_ok-is_met.ensures.1 (from (meet_both n g b f c.args.row.now.parts c.args.other.now.parts k.1))),
    )
