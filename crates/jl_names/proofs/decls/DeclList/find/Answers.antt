use Rattle.std.proofs.Common.{◌∙◌, ap}
use Rattle.jl_names.specs.Numbers.{number_in, with_places, names_of}
use Rattle.jl_names.proofs.NumberLemmas.{first_numbers_first}
use Rattle.jl_names.proofs.decls.DeclList.find.Goals as goal

pub returns : goal.returns
returns c = c.find.ensures ∙ first_numbers_first c.self.inside.numbers (with_places 0 (names_of c.self.inside.decls.items)) c.args.name.now c.self.invariant ∙ ap (λ z. number_in (with_places 0 (names_of z)) c.args.name.now) c.self.view_is
