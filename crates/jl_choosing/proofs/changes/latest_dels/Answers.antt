use Rattle.std.proofs.Common.{◌∙◌, [], arith}
use Rattle.jl_choosing.proofs.LeftLemmas.{none_latest}
use Rattle.jl_choosing.proofs.changes.latest_dels.Goals as goal

pub returns-in-Some : goal.returns-in-Some
returns-in-Some c = λ P f cs row. c.in_world.ensures P f cs (c.in-Some.ensures.lookup.4 (omega arith) [] ∙ row)

pub returns-in-None : goal.returns-in-None
returns-in-None c = λ P f cs row. none_latest P f c.args.world cs (c.in-None.ensures.lookup.4 (omega arith) [] ∙ row)
