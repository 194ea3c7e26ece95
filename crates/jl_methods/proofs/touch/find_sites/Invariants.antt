use Rattle.std.proofs.Common.{◌<◌}
use Rattle.jl_calculus.specs.declared.history.Change.TheVariants as Ch
use Rattle.jl_calculus.specs.Ranges.{head_of, HeadTouches}
use Rattle.jl_methods.specs.Links.{AreNumbers}
use Rattle.jl_methods.proofs.touch.find_sites.Given as goal

abbrev pub invariant-loop-site : goal.invariant-loop-site
invariant-loop-site l = AreNumbers (λ n. (n < l.site) × HeadTouches l.ready (head_of l.ready (Ch.Def n)) l.key) l.those.items
