use Rattle.std.proofs.Common.{arith}
use Rattle.jl_methods.proofs.ChangeLemmas.{get_at}
use Rattle.jl_book.proofs.Ends.{none_past, place_there, told, no_other}
use Rattle.jl_book.proofs.parts.record_of.Goals as goal

pub returns-then-task-ends : goal.returns-then-task-ends
returns-then-task-ends c = none_past c.args.events.now c.args.ends.now c.args.task c.requires (omega (arith, c.if-task-ends.true))

pub bounds-events-place : goal.bounds-events-place
bounds-events-place c = place_there c.args.events.now c.args.ends.now c.args.task c.requires c.in-Some.place c.in-Some.is

pub unreachable-requires : goal.unreachable-requires
unreachable-requires c =
    let es = c.args.events.now in
    let ends = c.args.ends.now in
    let p = c.in-Some.place in
    let e = c.index-events-place.result in
    let at = get_at es p e (place_there es ends c.args.task c.requires p c.in-Some.is) c.index-events-place.is in
    no_other es ends c.args.task c.requires p c.in-Some.is e at c.in_default-events.not-Done

pub returns : goal.returns
returns c =
    let es = c.args.events.now in
    let ends = c.args.ends.now in
    let p = c.in-Some.place in
    let e = c.index-events-place.result in
    let at = get_at es p e (place_there es ends c.args.task c.requires p c.in-Some.is) c.index-events-place.is in
    told es ends c.args.task c.requires p c.in-Some.is e c.in-Done.task c.in-Done.ended at c.in-Done.is
