use Rattle.std.proofs.Common.{◌≡◌, ℕ, length}
use Rattle.jl_calculus.specs.Definitions.{defs_from}
use Rattle.jl_methods.specs.Numbered.{nth}
use Rattle.jl_methods.specs.Room.{items_of}
use Rattle.jl_methods.proofs.PreludeLemmas.{first_changes}
use Rattle.jl_methods.proofs.index.prelude_defs.Given as goal

abbrev pub invariant-loop-site : goal.invariant-loop-site
invariant-loop-site l =
    (length (items_of l.defs) ≡ length l.ready.functions) × ((f : ℕ) → nth (items_of l.defs) f ≡ defs_from l.ready f 1 (first_changes l.site))
