use Rattle.std.proofs.Common.{◌≡◌, map, drop}
use Rattle.jl_model.specs.Subtype.{put, at}
use Rattle.jl_types.proofs.same.+same_put.Given as goal

abbrev pub invariant-same_all_put-loop-i : goal.invariant-same_all_put-loop-i
invariant-same_all_put-loop-i l = record {
  whole : map (put (at l.values)) (drop l.i l.parts) ≡ drop l.i l.ys → map (put (at l.values)) l.parts ≡ l.ys;
  rest : map (put (at l.values)) l.parts ≡ l.ys → map (put (at l.values)) (drop l.i l.parts) ≡ drop l.i l.ys;
}
