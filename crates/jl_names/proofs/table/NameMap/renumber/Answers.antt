use Rattle.std.proofs.Common.{◌∙◌, sym, ap}
use Rattle.std.specs.Option.{option_copied_mut}
use Rattle.jl_names.specs.Numbers.{number_in, renumber}
use Rattle.jl_names.specs.contracts.table.NameMap.{the_view}
use Rattle.jl_names.proofs.EntryLemmas.{same_bytes, looked, renumber_is, renumber_none, pairs}
use Rattle.jl_names.proofs.table.NameMap.renumber.Goals as goal
use Rattle.jl_names.proofs.table.NameMap.renumber.Goals.{in-Some, in_default}

pub returns : goal.returns
returns c = elim c.match-get_mut.branch [
  | in-Some w ↦
      ap the_view w.self-inside-is ∙ ap (pairs (λ k. k.name)) (c.get_mut.follows.holds c.args.number).0
      ∙ renumber_is (λ k. k.name) _ c.args.name.now c.args.number (λ k. same_bytes c.args.name.now k.name) c.self.inside.numbers.entries
      ∙ ap (λ z. renumber z (c.args.name.now, c.args.number)) c.self.view_is
  | in_default w ↦
      ap the_view w.self-inside-is ∙ ap (λ m. pairs (λ k. k.name) m.entries) c.get_mut.follows.holds-at-none ∙ c.self.view_is
      ∙ sym (renumber_none c.args.name.now c.args.number c.args.self.now
      (ap (λ z. number_in z c.args.name.now) (sym c.self.view_is) ∙ sym (looked (λ k. k.name) _ c.args.name.now (λ k. same_bytes c.args.name.now k.name) c.self.inside.numbers.entries)
      ∙ sym c.get_mut.ensures.value ∙ ap option_copied_mut w.in_default.is))
]
