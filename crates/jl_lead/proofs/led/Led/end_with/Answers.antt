use Rattle.std.proofs.Common.{sym, subst}
use Rattle.jl_calculus.specs.declared.history.Event.TheVariants as Ev
use Rattle.jl_calculus.specs.ValidHistory.{IsValidOutcome}
use Rattle.jl_task.proofs.ValueTypes.{nothing_valid}
use Rattle.jl_lead.proofs.Whole.{placed_same, placed_more, left_same, fetch_lost, fetch_made}
use Rattle.jl_lead.proofs.led.Led.end_with.Goals as goal

pub end-requires : goal.end-requires
end-requires c =
    let s = c.args.self.now in
    subst (IsValidOutcome s.past.0) (sym c.requires.nothing) (nothing_valid s.past.0)

pub invariant_of-self : goal.invariant_of-self
invariant_of-self c =
    let s = c.args.self.now in
    record {
      placed = placed_more s.past.0 s.past.1 (Ev.Done c.args.task c.args.ended) s.task s.seen c.len-self.result c.end.new.self s.placed c.in-Ok.ensures.added c.len-self.ensures;
      left = λ l. c.len-self.ensures;
    }

pub returns-in-Ok : goal.returns-in-Ok
returns-in-Ok c =
    let s = c.args.self.now in
    fetch_made s.past.0 s.past.1 s.task s.items.items s.told s.seen s.looks s.alone c.args.task c.len-self.result c.args.ended c.args.outcome c.end.new.self c.requires.same c.requires.nothing c.requires.here c.requires.next s.placed.seen_some
    c.requires.running c.in-Ok.ensures.added c.len-self.ensures

pub invariant_of-self-in-Err : goal.invariant_of-self-in-Err
invariant_of-self-in-Err c =
    let s = c.args.self.now in
    record {
      placed = placed_same c.end.new.self s.past s.task s.seen c.in-Err.ensures.refused s.placed;
      left = left_same c.end.new.self s.past s.alone s.seen _ c.in-Err.ensures.refused s.left;
    }

pub returns-in-Err : goal.returns-in-Err
returns-in-Err c =
    let s = c.args.self.now in
    fetch_lost s.past.0 s.past.1 s.task s.items.items s.told s.seen s.looks s.alone c.args.task c.end.new.self c.in-Err.ensures.refused
