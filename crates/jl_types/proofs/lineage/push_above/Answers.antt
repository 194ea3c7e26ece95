use Rattle.std.proofs.Common.{◌+◌, ◌++◌, ◌≡◌, ap, ◌∙◌, refl, map, arith}
use Rattle.jl_model.specs.Subtype.{put, at}
use Rattle.jl_model.specs.Ancestors.{put_under}
use Rattle.jl_types.specs.Lines.{line_in}
use Rattle.jl_types.proofs.TableLemmas.{above_step}
use Rattle.jl_types.proofs.lineage.push_above.Goals as goal

pub loop-ancestor-preserved : goal.loop-ancestor-preserved
loop-ancestor-preserved c =
    let a = c.ancestor-item.result in
    let args_is : c.in_ok-args.args ≡ map (put (at c.args.args.now)) a.args = c.in_ok-args.ensures ∙ ap (map (put (at c.args.args.now))) c.as_slice.ensures in
    above_step c.args.args.now c.args.above.now c.loop-ancestor.line c.push.new.self
    (line_in c.args.line.now ++ map (put_under c.args.args.now) (line_in c.args.above.now))
    c.loop-ancestor.ancestor-index (c.loop-ancestor.ancestor-index + 1) a (record { name = a.name; args = c.in_ok-args.args })
    c.loop-ancestor.invariant c.loop-ancestor-test.true c.ancestor-item.is refl args_is c.in_ok-push.ensures (omega arith)
