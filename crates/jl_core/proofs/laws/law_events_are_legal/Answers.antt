use Rattle.jl_core.proofs.StepLemmas.{reached_sound}
use Rattle.jl_core.proofs.laws.law_events_are_legal.Goals as goal

pub returns : goal.returns
returns c = record {
  stand = λ P room s h. (reached_sound P room s h).events.stand;
  traced = λ P room s h. (reached_sound P room s h).events.traced;
}
