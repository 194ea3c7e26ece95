use Rattle.std.proofs.Common.{◌<◌}
use Rattle.jl_calculus.specs.declared.history.Change.TheVariants as Ch
use Rattle.jl_calculus.specs.Ranges.{head_of, HeadTouches}
use Rattle.jl_methods.specs.Links.{AreNumbers}
use Rattle.jl_methods.proofs.touch.find_places.Given as goal

abbrev pub invariant-loop-place : goal.invariant-loop-place
invariant-loop-place l = AreNumbers (λ n. (n < l.place) × HeadTouches l.ready (head_of l.ready (Ch.Del n)) l.key) l.those.items
