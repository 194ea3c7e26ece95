use Rattle.std.proofs.Common.{subst}
use Rattle.jl_model.specs.Ancestors.{table_of}
use Rattle.jl_model.specs.Counts.{nodes}
use Rattle.jl_model.specs.Members.{BelowSome}
use Rattle.jl_types.specs.Reduce.{BelowNoSmall, Thinned, covered, small, large}
use Rattle.jl_types.proofs.ReduceLemmas.{not_small}
use Rattle.jl_types.proofs.reduce.inserted.Goals as goal

pub returns-then-is_covered : goal.returns-then-is_covered
returns-then-is_covered c = covered (subst (BelowSome (table_of c.args.table.now) c.args.candidate.now) c.as_slice.ensures.value (c.is_covered.ensures.covered c.if-is_covered.true))

pub returns-then-not-is_small : goal.returns-then-not-is_small
returns-then-not-is_small c =
    let n = table_of c.args.table.now in
    let b = subst (BelowNoSmall n c.args.candidate.now) c.as_slice.ensures.value (c.is_covered.ensures.uncovered c.if-is_covered.false) in
    rw (c.in_ok-push.ensures.items, c.in_ok-copy.ensures) (large (not_small (nodes c.args.candidate.now) c.is_small.result c.is_small.ensures c.if-not-is_small.true) b)

pub returns : goal.returns
returns c =
    let n = table_of c.args.table.now in
    let b = subst (BelowNoSmall n c.args.candidate.now) c.as_slice.ensures.value (c.is_covered.ensures.uncovered c.if-is_covered.false) in
    let d = subst (λ z. Thinned n c.args.candidate.now z c.in_ok-more.more.items) c.as_slice-2.ensures.value c.in_ok-more.ensures in
    rw (c.in_ok-push-2.ensures.items, c.in_ok-copy-2.ensures) (small c.in_ok-more.more.items (c.is_small.ensures.0 c.if-not-is_small.false) b d)
