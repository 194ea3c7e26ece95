use Rattle.std.proofs.Common.{◌≡◌, ◌∙◌, sym, subst, refl, true}
use Rattle.jl_model.specs.Ancestors.{table_of}
use Rattle.jl_model.specs.Subtype.{at, Below}
use Rattle.jl_model.proofs.PutLemmas.{put-closed}
use Rattle.jl_subsig.specs.Side.{held}
use Rattle.jl_subsig.proofs.BelowLemmas.{plain_item}
use Rattle.jl_subsig.proofs.serve.is_within.Goals as goal

pub is_below-requires-clause-ty : goal.is_below-requires-clause-ty
is_below-requires-clause-ty c = plain_item c.args.table.now c.args.low.now c.requires.low

pub returns-then-not-is_below : goal.returns-then-not-is_below
returns-then-not-is_below c =
    let n = table_of c.args.table.now in
    let g = held c.args.left.now c.args.row.now in
    let e = put-closed (at c.args.values.now) c.args.low.now c.requires.low.closed in (
      (λ h. cc),
      (λ q. let r : c.is_below.result ≡ true = c.is_below.ensures.1 (subst (λ z. Below n g z c.args.value.now) e q.0) in cc),
    )

pub returns-then-is_diagonal : goal.returns-then-is_diagonal
returns-then-is_diagonal c =
    let n = table_of c.args.table.now in
    let g = held c.args.left.now c.args.row.now in
    let e = put-closed (at c.args.values.now) c.args.low.now c.requires.low.closed in (
      (λ h. (subst (λ z. Below n g z c.args.value.now) (sym e) (c.is_below.ensures.0 c.if-not-is_below.false), c.in_ok-is_below_high.ensures.0 c.if-not-branch.false, (λ d. sym c.is_concrete.ensures ∙ h))),
      (λ q. c.is_concrete.ensures ∙ q.2 c.if-is_diagonal.true),
    )

pub returns : goal.returns
returns c =
    let n = table_of c.args.table.now in
    let g = held c.args.left.now c.args.row.now in
    let e = put-closed (at c.args.values.now) c.args.low.now c.requires.low.closed in (
      (λ h. (
        subst (λ z. Below n g z c.args.value.now) (sym e) (c.is_below.ensures.0 c.if-not-is_below.false),
        c.in_ok-is_below_high.ensures.0 c.if-not-branch.false,
        (λ d. (let r : c.args.is_diagonal ≡ true = d in cc)),
      )),
      (λ q. refl),
    )
