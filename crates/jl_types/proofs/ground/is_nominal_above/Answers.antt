use Rattle.std.proofs.Common.{◌≡◌, subst, map}
use Rattle.jl_model.specs.Subtype.{put, at}
use Rattle.jl_types.proofs.GroundLemmas.{own_case, none_case, far_case, Tells}
use Rattle.jl_types.proofs.ground.is_nominal_above.Goals as goal

pub returns-then-lower-upper : goal.returns-then-lower-upper
returns-then-lower-upper c =
    own_case c.args.table.now c.valid.ensures c.args.lower c.args.upper c.args.xs.now c.args.ys.now c.same_all.result c.if-lower-upper.true c.requires.lowers_exact c.requires.uppers_normal c.same_all.ensures

pub returns-in-None : goal.returns-in-None
returns-in-None c =
    ((λ h. cc), (λ b. absurd (none_case c.args.table.now c.valid.ensures c.args.lower c.args.upper c.args.xs.now c.args.ys.now c.if-lower-upper.false c.in-None.ensures b)))

pub returns-in-Some : goal.returns-in-Some
returns-in-Some c =
    let as_ = c.in-Some.args.now in
    let t = subst (λ z. Tells c.same_all_put.result (map (put (at c.args.xs.now)) z ≡ c.args.ys.now)) c.as_slice.ensures c.same_all_put.ensures in
    far_case c.args.table.now c.valid.ensures c.args.lower c.args.upper c.args.xs.now c.args.ys.now as_ c.same_all_put.result c.if-lower-upper.false c.in-Some.ensures
    c.requires.lowers_exact c.requires.uppers_normal t
