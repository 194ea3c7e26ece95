use Rattle.std.proofs.Common.{◌∙◌, sym, ap, take}
use Rattle.std.proofs.lemmas.List.{take-map}
use Rattle.jl_written.specs.declared.reading.TypeVar.{TypeVar}
use Rattle.jl_written.specs.Meaning.{names_of}
use Rattle.jl_written.proofs.vars.TypeVars.truncate.Goals as goal

pub invariant_of-self : goal.invariant_of-self
invariant_of-self c = c.truncate-2.ensures ∙ ap (take c.args.most) c.self.invariant ∙ take-map (λ (v : TypeVar). v.name) c.args.most c.self.inside.vars.items ∙ ap names_of (sym c.truncate.ensures.items)
