use Rattle.jl_gen.specs.Script.{struct_line}
use Rattle.jl_gen.proofs.StepLemmas.{one_more}
use Rattle.jl_gen.proofs.lines.append_structs.Goals as goal

pub loop-i-preserved : goal.loop-i-preserved
loop-i-preserved c = one_more struct_line c.loop-i.i c.args.out.now c.loop-i.out c.append_around.new.out c.loop-i.invariant c.in_ok-append_around.ensures
