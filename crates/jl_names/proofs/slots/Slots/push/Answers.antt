use Rattle.std.proofs.Common.{◌∙◌, ◌++◌, ◌∷◌, [], ap, Some}
use Rattle.jl_names.specs.Numbers.{number_in, named_slots}
use Rattle.jl_names.proofs.NumberLemmas.{named_push}
use Rattle.jl_names.proofs.slots.Slots.push.Goals as goal

pub invariant_of-self-2 : goal.invariant_of-self-2
invariant_of-self-2 c =
    named_push c.self.inside.numbers c.add.new.self c.self.inside.names.items c.push_reserved.new.self.items c.args.name c.in_ok-number.number
    c.self.invariant (ap (λ z. number_in (named_slots 0 z) c.args.name) c.self.view_is ∙ c.requires) (c.in_ok-number.ensures.number ∙ c.len.ensures ∙ c.self.inside.names.ok.0)
    c.in_ok-add.ensures.added (c.push_reserved.ensures.items ∙ ap (λ z. z ++ Some c.args.name ∷ []) c.in_ok-reserve.ensures.items)
