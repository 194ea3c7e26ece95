use Rattle.std.proofs.Common.{◌≡◌, ◌++◌, map, drop}
use Rattle.jl_model.specs.Subtype.{put}
use Rattle.jl_program.specs.BodyTypes.{own_or_any}
use Rattle.jl_body.proofs.statics.+statics.Given as goal

abbrev pub invariant-all_without_statics-loop-ty : goal.invariant-all_without_statics-loop-ty
invariant-all_without_statics-loop-ty l = (l.items.items ++ map (put (own_or_any l.own)) (drop l.ty-index l.types)) ≡ map (put (own_or_any l.own)) l.types
