use Rattle.std.proofs.Common.{subst}
use Rattle.jl_reflect.specs.Chosen.{AreChosen}
use Rattle.jl_reflect.proofs.Joined.{first_and_later}
use Rattle.jl_reflect.proofs.ranges.spans.Goals as goal

pub returns : goal.returns
returns c =
    c.in_ok-spans-in-len1-up.ensures c.args.ready.now c.args.events.now c.args.key.now c.valid.ensures c.requires.key
    (subst (AreChosen c.args.ready.now c.args.events.now c.args.key.now)
    (first_and_later c.as_slice.result.now c.in_ok-all.all.items _ c.in-len1-up.len_at_least c.as_slice.ensures.value) c.in_ok-all.ensures)
