use Rattle.std.proofs.Common.{◌∙◌, ap}
use Rattle.jl_names.specs.Numbers.{number_in}
use Rattle.jl_names.proofs.EntryLemmas.{same_bytes, looked}
use Rattle.jl_names.proofs.table.NameMap.find.Goals as goal

pub returns : goal.returns
returns c = c.copied.ensures ∙ c.get.ensures.value ∙ looked (λ k. k.name) _ c.args.name.now (λ k. same_bytes c.args.name.now k.name) c.self.inside.numbers.entries ∙ ap (λ z. number_in z c.args.name.now) c.self.view_is
