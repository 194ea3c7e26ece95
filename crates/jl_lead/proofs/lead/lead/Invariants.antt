use Rattle.jl_machine.specs.Steps.{turns_of}
use Rattle.jl_lead.specs.Coming.{IsThere}
use Rattle.jl_lead.proofs.lead.lead.Given as goal

abbrev pub invariant-turns : goal.invariant-turns
invariant-turns g l = IsThere l.ready l.initial.machine l.initial.led l.machine l.led

abbrev pub decreases-turns : goal.decreases-turns
decreases-turns g l = turns_of l.ready l.machine
