use Rattle.jl_methods.proofs.StepLemmas.{change_known}
use Rattle.jl_methods.proofs.index.Index.change.Goals as goal

pub returns : goal.returns
returns c = λ P es h.
    let cs = c.args.self.now.changes.items in
    change_known es cs c.args.world c.index.result.now h.known_changes c.requires.0 c.requires.1 c.index.ensures
