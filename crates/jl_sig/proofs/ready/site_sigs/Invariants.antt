use Rattle.std.proofs.Common.{◌≡◌, ◌++◌, drop, map, All}
use Rattle.jl_sig.specs.Prepared.{IsSigOf}
use Rattle.jl_sig.specs.Readied.{sigs_of}
use Rattle.jl_sig.specs.SigParts.{written_of}
use Rattle.jl_sig.proofs.ready.site_sigs.Given as goal

abbrev pub invariant-loop-site : goal.invariant-loop-site
invariant-loop-site l = (map written_of l.sigs.items ++ sigs_of (drop l.site-index l.sites) ≡ sigs_of l.sites) × All (IsSigOf l.table) l.sigs.items
