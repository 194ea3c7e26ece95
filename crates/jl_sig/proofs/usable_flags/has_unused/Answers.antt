use Rattle.jl_sig.proofs.UnusedLemmas.{unused_told}
use Rattle.jl_sig.proofs.usable_flags.has_unused.Goals as goal

pub returns : goal.returns
returns c =
    unused_told c.args.written.now c.as_slice-2.result.now c.as_slice-3.result.now c.as_slice.result.now c.in_ok-flags.flags.items c.set_standing_in.new.flags.items c.set_standing_in_bounds.new.flags.items c.as_slice-4.result.now c.has_clear-unused.result
    c.as_slice-2.ensures c.as_slice-3.ensures c.as_slice.ensures c.in_ok-flags.ensures c.set_standing_in.ensures c.set_standing_in_bounds.ensures c.as_slice-4.ensures.value c.has_clear-unused.ensures
