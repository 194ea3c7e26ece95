use Rattle.std.proofs.Common.{◌∙◌, ◌++◌, ◌∷◌, [], ap}
use Rattle.jl_names.proofs.NumberLemmas.{place_push}
use Rattle.jl_names.proofs.list.NameList.push.Goals as goal

pub invariant_of-self-2 : goal.invariant_of-self-2
invariant_of-self-2 c =
    place_push c.self.inside.places c.add.new.self c.self.inside.names.items c.push_reserved.new.self.items c.args.name c.in_ok-number.number
    c.self.invariant (c.in_ok-number.ensures.number ∙ c.len.ensures ∙ c.self.inside.names.ok.0) c.in_ok-add.ensures.added
    (c.push_reserved.ensures.items ∙ ap (λ z. z ++ c.args.name ∷ []) c.in_ok-reserve.ensures.items)
