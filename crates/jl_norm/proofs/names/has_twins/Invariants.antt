use Rattle.std.proofs.Common.{◌≡◌, map, length}
use Rattle.jl_norm.proofs.NameLemmas.{AreDistinctBelow, SlotsTaken}
use Rattle.jl_norm.proofs.names.has_twins.Given as goal

abbrev pub invariant-loop-i : goal.invariant-loop-i
invariant-loop-i l =
    let names = map (λ f. f.name) l.fields in
    AreDistinctBelow names l.i × SlotsTaken l.taken names l.i × (length l.taken ≡ 256)
