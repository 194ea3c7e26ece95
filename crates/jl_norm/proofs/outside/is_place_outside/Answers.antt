use Rattle.std.proofs.Common.{◌≡◌, ◌∙◌, ◌∷◌, ◌++◌, [], sym, ap, subst, get_or, slice_get}
use Rattle.std.proofs.lemmas.Result.{IfOk-weaker}
use Rattle.jl_model.specs.Rows.{free}
use Rattle.jl_model.specs.Valid.{params_of}
use Rattle.jl_model.specs.Refusals.{Given}
use Rattle.jl_norm.specs.Judged.{IsGroundBound, IsJudged, Judged}
use Rattle.jl_norm.proofs.JudgeLemmas.{judged_one, large_one}
use Rattle.jl_norm.proofs.OwnLemmas.{slice_free, past_free, judged_place}
use Rattle.jl_norm.proofs.PlaceBounds.{place_ground, free_ground}
use Rattle.jl_norm.proofs.outside.is_place_outside.Goals as goal

pub is_outside-requires-clause-bound_ground : goal.is_outside-requires-clause-bound_ground
is_outside-requires-clause-bound_ground c =
    let e = slice_free c.bounds_of-bounds.result.now c.args.place c.index-bounds-place.result c.if-place-bounds.true c.index-bounds-place.is ∙ ap (λ z. get_or z c.args.place free) c.bounds_of-bounds.ensures in
    subst (IsGroundBound c.args.table.now) (sym e) (place_ground c.args.table.now c.args.decl.now c.args.kept.now c.valid.ensures c.requires.written c.requires.is_kept c.args.name c.args.place)

pub returns-then-place-bounds-clause-judged : goal.returns-then-place-bounds-clause-judged
returns-then-place-bounds-clause-judged c =
    let ds = c.args.table.now in
    let d = c.args.decl.now in
    let t = c.args.ty.now in
    let a : Given = record { of = c.args.name; place = c.args.place; ty = t } in
    let e = slice_free c.bounds_of-bounds.result.now c.args.place c.index-bounds-place.result c.if-place-bounds.true c.index-bounds-place.is ∙ ap (λ z. get_or z c.args.place free) c.bounds_of-bounds.ensures in
    IfOk-weaker c.is_outside.result (λ b. IsJudged ds d c.index-bounds-place.result t b) (λ b. Judged ds d (a ∷ []) b)
    (λ b j. judged_one ds d a b (sym c.if-not-is_closed.ensures) (judged_place ds d c.args.kept.now c.valid.ensures c.requires.written c.requires.is_kept a b (subst (λ z. IsJudged ds d z t b) e j))) c.is_outside.ensures.judged

pub returns-then-place-bounds-clause-limit : goal.returns-then-place-bounds-clause-limit
returns-then-place-bounds-clause-limit c = λ e.
    large_one c.args.table.now c.args.decl.now (record { of = c.args.name; place = c.args.place; ty = c.args.ty.now }) (sym c.if-not-is_closed.ensures) (c.is_outside.ensures.limit e)

pub is_outside-requires-2-clause-bound_ground : goal.is_outside-requires-2-clause-bound_ground
is_outside-requires-2-clause-bound_ground c = subst (IsGroundBound c.args.table.now) (sym c.no_bounds.ensures) (free_ground c.args.table.now)

pub returns-clause-judged : goal.returns-clause-judged
returns-clause-judged c =
    let ds = c.args.table.now in
    let d = c.args.decl.now in
    let t = c.args.ty.now in
    let a : Given = record { of = c.args.name; place = c.args.place; ty = t } in
    let e : c.no_bounds.result ≡ get_or (params_of (slice_get (ds ++ c.args.kept.now ∷ []) c.args.name)) c.args.place free =
    c.no_bounds.ensures ∙ sym (past_free c.bounds_of-bounds.result.now c.args.place c.if-place-bounds.false) ∙ ap (λ z. get_or z c.args.place free) c.bounds_of-bounds.ensures in
    IfOk-weaker c.is_outside-2.result (λ b. IsJudged ds d c.no_bounds.result t b) (λ b. Judged ds d (a ∷ []) b)
    (λ b j. judged_one ds d a b (sym c.if-not-is_closed.ensures) (judged_place ds d c.args.kept.now c.valid.ensures c.requires.written c.requires.is_kept a b (subst (λ z. IsJudged ds d z t b) e j))) c.is_outside-2.ensures.judged

pub returns-clause-limit : goal.returns-clause-limit
returns-clause-limit c = λ e.
    large_one c.args.table.now c.args.decl.now (record { of = c.args.name; place = c.args.place; ty = c.args.ty.now }) (sym c.if-not-is_closed.ensures) (c.is_outside-2.ensures.limit e)
