use Rattle.std.proofs.Common.{ap, arith, length, ◌-◌, ◌<◌}
use Rattle.jl_calculus.proofs.GrowthLemmas.{changes_length}
use Rattle.jl_core.proofs.RangeLemmas.{method_bounds, no_method, range_told, chosen, chosen_method, flags_there, flags_count}
use Rattle.jl_core.proofs.range.range_of.Goals as goal

pub returns-in_default : goal.returns-in_default
returns-in_default c =
    let P = c.args.ready.now in
    let es = c.args.events.now in
    let key = c.args.key.now in
    let s = chosen P es key c.args.world c.in_ok-choice.choice c.in_ok-made.made.items c.as_slice-known.result.now c.as_slice-known.ensures.value c.in_ok-made.ensures c.in_ok-choice.ensures in
    no_method P es key c.args.world c.in_ok-choice.choice s c.in_default.not-Method

pub overflow_sub-method : goal.overflow_sub-method
overflow_sub-method c =
    let P = c.args.ready.now in
    let es = c.args.events.now in
    let key = c.args.key.now in
    let s = chosen P es key c.args.world c.in_ok-choice.choice c.in_ok-made.made.items c.as_slice-known.result.now c.as_slice-known.ensures.value c.in_ok-made.ensures c.in_ok-choice.ensures in
    let m = chosen_method P es key c.args.world c.in_ok-choice.choice c.in-Method.method c.in-Method.is s in
    let b = method_bounds P es key.function key.types c.args.world c.in-Method.method m in
    b.0

pub index-requires : goal.index-requires
index-requires c =
    let P = c.args.ready.now in
    let es = c.args.events.now in
    let key = c.args.key.now in
    let s = chosen P es key c.args.world c.in_ok-choice.choice c.in_ok-made.made.items c.as_slice-known.result.now c.as_slice-known.ensures.value c.in_ok-made.ensures c.in_ok-choice.ensures in
    let m = chosen_method P es key c.args.world c.in_ok-choice.choice c.in-Method.method c.in-Method.is s in
    let b = method_bounds P es key.function key.types c.args.world c.in-Method.method m in
    omega (arith, b.0, b.1, c.requires.high, ap length c.in_ok-made.ensures, changes_length es, c.in_ok-made.made.ok.0)

pub first_of-first-requires-clause-high : goal.first_of-first-requires-clause-high
first_of-first-requires-clause-high c =
    let P = c.args.ready.now in
    let es = c.args.events.now in
    let key = c.args.key.now in
    let flags = flags_there P es key c.in_ok-made.made.items c.as_slice-known.result.now c.in_ok-flags.flags.items c.as_slice-flagged.result.now c.as_slice-known.ensures.value c.in_ok-made.ensures c.as_slice-flagged.ensures.value c.in_ok-flags.ensures in
    let n = flags_count P es key c.as_slice-flagged.result.now flags in
    omega (arith, n, c.requires.high)

pub last_of-last-requires : goal.last_of-last-requires
last_of-last-requires c =
    let P = c.args.ready.now in
    let es = c.args.events.now in
    let key = c.args.key.now in
    let flags = flags_there P es key c.in_ok-made.made.items c.as_slice-known.result.now c.in_ok-flags.flags.items c.as_slice-flagged.result.now c.as_slice-known.ensures.value c.in_ok-made.ensures c.as_slice-flagged.ensures.value c.in_ok-flags.ensures in
    let n = flags_count P es key c.as_slice-flagged.result.now flags in
    omega (arith, n, c.requires.few)

pub returns : goal.returns
returns c =
    let P = c.args.ready.now in
    let es = c.args.events.now in
    let key = c.args.key.now in
    let s = chosen P es key c.args.world c.in_ok-choice.choice c.in_ok-made.made.items c.as_slice-known.result.now c.as_slice-known.ensures.value c.in_ok-made.ensures c.in_ok-choice.ensures in
    let m = chosen_method P es key c.args.world c.in_ok-choice.choice c.in-Method.method c.in-Method.is s in
    let b = method_bounds P es key.function key.types c.args.world c.in-Method.method m in
    let flags = flags_there P es key c.in_ok-made.made.items c.as_slice-known.result.now c.in_ok-flags.flags.items c.as_slice-flagged.result.now c.as_slice-known.ensures.value c.in_ok-made.ensures c.as_slice-flagged.ensures.value c.in_ok-flags.ensures in
    let n = flags_count P es key c.as_slice-flagged.result.now flags in
    let l : c.in-Method.method - 1 < length c.in_ok-made.made.items = omega (arith, b.0, b.1, c.requires.high, ap length c.in_ok-made.ensures, changes_length es) in
    range_told P es key c.as_slice-flagged.result.now c.args.world _ c.in_ok-made.made.items c.index.result.now c.in-Method.method flags c.first_of-first.ensures c.last_of-last.ensures c.in_ok-made.ensures m l c.index.ensures c.site_in-site.ensures
