use Rattle.jl_lead.proofs.Answering.{asked}
use Rattle.jl_lead.proofs.led.LedRecall.keep.Goals as goal

pub returns : goal.returns
returns c = let s = c.args.self.now in asked s.past.0 s.past.1 s.task s.items.items s.told s.seen s.looks s.alone
