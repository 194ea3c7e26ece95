use Rattle.std.proofs.Common.{◌∙◌, sym, ap, ◌+◌, ◌&&◌, length, drop}
use Rattle.jl_model.specs.SigRefusals.{are_bounds}
use Rattle.jl_match.proofs.PlaceLemmas.{bounds-suc, bounds-end}
use Rattle.jl_match.proofs.places.are_bounds.Goals as goal

pub returns-then-not-is_bound : goal.returns-then-not-is_bound
returns-then-not-is_bound c =
    let bs = c.args.bounds.now in
    let v = c.loop-variable.variable in
    let m = length bs in
    sym (c.loop-variable.invariant ∙ bounds-suc m bs v c.index-bounds-variable.result c.loop-variable-test.true c.index-bounds-variable.is
    ∙ ap (λ b. b && are_bounds m (v + 1) (drop (v + 1) bs)) (sym c.is_bound.ensures ∙ c.if-not-is_bound.true))

pub loop-variable-preserved : goal.loop-variable-preserved
loop-variable-preserved c =
    let bs = c.args.bounds.now in
    let v = c.loop-variable.variable in
    let m = length bs in
    c.loop-variable.invariant ∙ bounds-suc m bs v c.index-bounds-variable.result c.loop-variable-test.true c.index-bounds-variable.is
    ∙ ap (λ b. b && are_bounds m (v + 1) (drop (v + 1) bs)) (sym c.is_bound.ensures ∙ c.if-not-is_bound.false)

pub returns : goal.returns
returns c =
    let bs = c.args.bounds.now in
    let v = c.loop-variable.variable in
    sym (c.loop-variable.invariant ∙ bounds-end (length bs) bs v c.loop-variable-test.false)
