use Rattle.std.proofs.Common.{◌∙◌, ap, get_or}
use Rattle.jl_choosing.proofs.LatestLemmas.{sifted_more, sifted_past, sifted_whole}
use Rattle.jl_choosing.proofs.changes.latest_of.Goals as goal

pub loop-i-preserved-then-place_of-i : goal.loop-i-preserved-then-place_of-i
loop-i-preserved-then-place_of-i c =
    let site = (get_or c.args.defs.now c.loop-i.i (record { world = 0; site = 0 })).site in
    sifted_past c.args.defs.now c.in_ok-places.places.items c.loop-i.latest.items c.loop-i.i c.loop-i-test.true c.loop-i.invariant
    (λ e. c.if-place_of-i.true (c.place_of.ensures ∙ ap (λ xs. get_or xs site 0) c.as_slice.ensures.value ∙ e))

pub loop-i-preserved : goal.loop-i-preserved
loop-i-preserved c =
    sifted_more c.args.defs.now c.in_ok-places.places.items c.loop-i.latest.items c.loop-i.i c.loop-i-test.true c.loop-i.invariant c.requires c.push.new.self.items c.in_ok-push.ensures.items

pub returns : goal.returns
returns c = sifted_whole c.args.defs.now c.in_ok-places.places.items c.loop-i.latest.items c.loop-i.i c.requires c.loop-i-test.false c.in_ok-places.ensures c.loop-i.invariant
