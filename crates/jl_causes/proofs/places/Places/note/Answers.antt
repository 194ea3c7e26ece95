use Rattle.std.proofs.Common.{refl}
use Rattle.jl_causes.proofs.PlaceLemmas.{places_more}
use Rattle.jl_causes.proofs.places.Places.note.Goals as goal

pub returns : goal.returns
returns c = λ es e h k. places_more es e c.args.self.now _ c.args.counts c.in_ok-push.ensures.items refl h k
