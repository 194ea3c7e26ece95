use Rattle.std.proofs.Common.{refl}
use Rattle.jl_lead.proofs.Whole.{fetch_lost}
use Rattle.jl_lead.proofs.led.Led.make_end.Goals as goal

pub returns-then-self : goal.returns-then-self
returns-then-self c =
    let s = c.args.self.now in
    fetch_lost s.past.0 s.past.1 s.task s.items.items s.told s.seen s.looks s.alone c.args.task s.past refl

pub returns-in_default : goal.returns-in_default
returns-in_default c =
    let s = c.args.self.now in
    fetch_lost s.past.0 s.past.1 s.task s.items.items s.told s.seen s.looks s.alone c.args.task s.past refl
