use Rattle.std.proofs.Common.{arith}
use Rattle.jl_lead.proofs.Whole.{placed_on, placed_after}
use Rattle.jl_lead.proofs.led.Led.note.Goals as goal

pub invariant_of-self : goal.invariant_of-self
invariant_of-self c =
    let s = c.args.self.now in
    let v = c.note-noted.new.self in
    record {
      placed = placed_on v.1 s.task s.seen c.len-self.result (placed_after c.note-noted.result s.past v c.args.event s.task s.seen c.note-noted.ensures.added c.note-noted.ensures.refused s.placed) (let e = c.len-self.ensures in omega (arith, e));
      left = λ l. c.len-self.ensures;
    }
