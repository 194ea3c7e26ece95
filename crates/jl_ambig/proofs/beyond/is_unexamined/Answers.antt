use Rattle.std.proofs.Common.{◌∙◌, ap, Some}
use Rattle.jl_ambig.specs.Pairs.{IsUnexamined}
use Rattle.jl_ambig.proofs.StandLemmas.{not_deletion, decided_no}
use Rattle.jl_ambig.proofs.beyond.is_unexamined.Goals as goal

pub returns-in-Del-clause-yes : goal.returns-in-Del-clause-yes
returns-in-Del-clause-yes c = λ es same e.
    decided_no (IsUnexamined c.args.made.now.0 es c.args.world) (not_deletion c.args.made.now.0 es c.args.world _ (e ∙ ap Some c.in-Del.is))
