use Rattle.std.proofs.Common.{◌∙◌, ap}
use Rattle.jl_names.specs.Numbers.{number_in}
use Rattle.jl_names.proofs.EntryLemmas.{same_bytes, looked, newer}
use Rattle.jl_names.proofs.table.NameMap.put.Goals as goal

pub returns-clause-put : goal.returns-clause-put
returns-clause-put c =
    newer (λ k. k.name) _ (record { name = c.in_ok-copy.field-0 }) c.args.number c.self.inside.numbers.entries c.insert.new.self.entries c.args.name.now c.args.self.now
    c.in_ok-before.ensures.entries (λ x. same_bytes c.in_ok-copy.field-0 x.name) c.in_ok-copy.ensures c.self.view_is

pub returns-clause-before : goal.returns-clause-before
returns-clause-before c =
    c.in_ok-before.ensures.old
    ∙ looked (λ k. k.name) _ c.in_ok-copy.field-0 (λ x. same_bytes c.in_ok-copy.field-0 x.name) c.self.inside.numbers.entries
    ∙ ap (λ z. number_in z c.in_ok-copy.field-0) c.self.view_is ∙ ap (number_in c.args.self.now) c.in_ok-copy.ensures
