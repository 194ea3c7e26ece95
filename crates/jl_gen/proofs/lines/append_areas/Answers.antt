use Rattle.jl_gen.specs.Script.{area_line}
use Rattle.jl_gen.proofs.StepLemmas.{one_more}
use Rattle.jl_gen.proofs.lines.append_areas.Goals as goal

pub loop-i-preserved : goal.loop-i-preserved
loop-i-preserved c = one_more area_line c.loop-i.i c.args.out.now c.loop-i.out c.append_two.new.out c.loop-i.invariant c.in_ok-append_two.ensures
