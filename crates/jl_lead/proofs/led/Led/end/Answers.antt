use Rattle.std.proofs.Common.{arith}
use Rattle.jl_calculus.specs.declared.history.Event.TheVariants as Ev
use Rattle.jl_lead.proofs.Whole.{placed_on, placed_after}
use Rattle.jl_lead.proofs.led.Led.end.Goals as goal

pub invariant_of-self : goal.invariant_of-self
invariant_of-self c =
    let s = c.args.self.now in
    let v = c.end-noted.new.self in
    record {
      placed = placed_on v.1 s.task s.seen c.len-self.result (placed_after c.end-noted.result s.past v (Ev.Done c.args.task c.args.ended) s.task s.seen c.end-noted.ensures.added c.end-noted.ensures.refused s.placed) (let e = c.len-self.ensures in omega (arith, e));
      left = λ l. c.len-self.ensures;
    }
