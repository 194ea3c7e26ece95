use Rattle.std.proofs.Common.{◌∙◌, sym, ap}
use Rattle.jl_written.specs.Meaning.{names_of}
use Rattle.jl_written.proofs.vars.TypeVars.renew.Goals as goal

pub invariant_of-self : goal.invariant_of-self
invariant_of-self c = c.self.invariant ∙ ap names_of c.self.view_is ∙ sym c.requires
