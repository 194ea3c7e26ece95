use Rattle.jl_causes.proofs.standing.Standing.learn_steps.Goals as goal

pub learn_step-requires : goal.learn_step-requires
learn_step-requires c = let (cs, h) = c.requires in (cs, c.loop-step.invariant cs h)

pub loop-step-preserved : goal.loop-step-preserved
loop-step-preserved c = λ cs h. c.in_ok-learn_step.ensures cs (c.loop-step.invariant cs h)
