use Rattle.std.proofs.Common.{◌∙◌, ap, take, map}
use Rattle.jl_names.proofs.EntryLemmas.{cut}
use Rattle.jl_names.proofs.table.NameMap.truncate.Goals as goal

pub returns : goal.returns
returns c = ap (λ es. map (λ e. (e.0.name, e.1)) es) c.truncate.ensures.entries ∙ cut (λ k. k.name) c.args.most c.self.inside.numbers.entries ∙ ap (take c.args.most) c.self.view_is
