use Rattle.jl_gen.specs.Script.{spawn_line}
use Rattle.jl_gen.proofs.StepLemmas.{one_more}
use Rattle.jl_gen.proofs.lines.append_spawns.Goals as goal

pub loop-i-preserved : goal.loop-i-preserved
loop-i-preserved c = one_more (spawn_line c.args.rounds) c.loop-i.i c.args.out.now c.loop-i.out c.append_two.new.out c.loop-i.invariant c.in_ok-append_two.ensures
