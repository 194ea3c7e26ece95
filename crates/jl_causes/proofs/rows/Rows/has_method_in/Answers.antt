use Rattle.jl_calculus.specs.World.{changes}
use Rattle.jl_causes.proofs.StoodLemmas.{found_by, world_there}
use Rattle.jl_causes.proofs.rows.Rows.has_method_in.Goals as goal

pub returns : goal.returns
returns c = λ es at h e.
    let P = c.args.ready.now in
    let found = found_by P es at c.args.world e c.args.place c.requires in
    let answer = c.in_ok-found.ensures (changes es) h.standing (world_there P es at c.args.world e) in (λ here. found.0 (answer.0 here), λ there. answer.1 (found.1 there))
