use Rattle.std.proofs.Common.{◌∙◌, sym, ap, take, length, ◌-◌, map}
use Rattle.std.proofs.lemmas.List.{length-map}
use Rattle.jl_names.proofs.EntryLemmas.{cut}
use Rattle.jl_names.proofs.table.NameMap.pop.Goals as goal

pub returns : goal.returns
returns c =
    ap (λ es. map (λ e. (e.0.name, e.1)) es) c.truncate.ensures.entries ∙ cut (λ k. k.name) c.saturating_sub-kept.result c.self.inside.numbers.entries
    ∙ ap (take c.saturating_sub-kept.result) c.self.view_is
    ∙ ap (λ n. take n c.args.self.now) (c.saturating_sub-kept.ensures ∙ ap (λ n. n - 1) (c.len.ensures.len ∙ sym (length-map c.self.inside.numbers.entries (λ e. (e.0.name, e.1))) ∙ ap (λ z. length z) c.self.view_is))
