use Rattle.jl_gen.specs.Script.{print_line}
use Rattle.jl_gen.proofs.StepLemmas.{one_more}
use Rattle.jl_gen.proofs.lines.append_prints.Goals as goal

pub loop-i-preserved : goal.loop-i-preserved
loop-i-preserved c = one_more print_line c.loop-i.i c.args.out.now c.loop-i.out c.append_around.new.out c.loop-i.invariant c.in_ok-append_around.ensures
