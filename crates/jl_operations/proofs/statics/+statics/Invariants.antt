use Rattle.std.proofs.Common.{◌≡◌, ◌++◌, map, drop}
use Rattle.jl_model.specs.Subtype.{put}
use Rattle.jl_calculus.specs.Statics.{own_or_bound}
use Rattle.jl_operations.proofs.statics.+statics.Given as goal

abbrev pub invariant-put_all-loop-ty : goal.invariant-put_all-loop-ty
invariant-put_all-loop-ty l = (l.items.items ++ map (put (own_or_bound l.statics l.own)) (drop l.ty-index l.types)) ≡ map (put (own_or_bound l.statics l.own)) l.types
