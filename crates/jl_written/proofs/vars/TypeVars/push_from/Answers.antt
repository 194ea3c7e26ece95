use Rattle.std.proofs.Common.{◌∙◌, ap}
use Rattle.jl_names.specs.Stacks.{last_place}
use Rattle.jl_written.specs.Meaning.{names_of}
use Rattle.jl_written.specs.Reads.{is_from}
use Rattle.jl_written.proofs.SightLemmas.{placed_from}
use Rattle.jl_written.proofs.vars.TypeVars.push_from.Goals as goal

pub returns-clause-hides : goal.returns-clause-hides
returns-clause-hides c =
    c.is_from.ensures
    ∙ ap (is_from c.args.start)
    (c.in_ok-hidden.ensures.hidden ∙ ap (last_place c.self.inside.names) c.in_ok-copy.ensures ∙ ap (λ z. last_place z c.args.var.name) (c.self.invariant ∙ ap names_of c.self.view_is))
    ∙ placed_from c.args.self.now c.args.var.name c.args.start
