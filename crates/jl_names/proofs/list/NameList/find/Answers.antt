use Rattle.std.proofs.Common.{◌∙◌, ap}
use Rattle.jl_names.specs.Numbers.{number_in, with_places}
use Rattle.jl_names.proofs.NumberLemmas.{first_numbers_first}
use Rattle.jl_names.proofs.list.NameList.find.Goals as goal

pub returns : goal.returns
returns c = c.find.ensures ∙ first_numbers_first c.self.inside.places (with_places 0 c.self.inside.names.items) c.args.name.now c.self.invariant ∙ ap (λ z. number_in (with_places 0 z) c.args.name.now) c.self.view_is
