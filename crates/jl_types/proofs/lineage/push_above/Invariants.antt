use Rattle.std.proofs.Common.{◌≡◌, ◌++◌, map, drop}
use Rattle.jl_model.specs.Ancestors.{put_under}
use Rattle.jl_types.specs.Lines.{line_in}
use Rattle.jl_types.proofs.lineage.push_above.Given as goal

abbrev pub invariant-loop-ancestor : goal.invariant-loop-ancestor
invariant-loop-ancestor l =
    (line_in l.line ++ map (put_under l.args) (line_in (drop l.ancestor-index l.above))) ≡ line_in l.initial.line ++ map (put_under l.args) (line_in l.above)
