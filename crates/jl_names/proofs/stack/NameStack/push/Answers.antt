use Rattle.std.proofs.Common.{◌∙◌, ap}
use Rattle.jl_names.specs.Stacks.{last_place}
use Rattle.jl_names.proofs.StackLemmas.{told, pushed}
use Rattle.jl_names.proofs.stack.NameStack.push.Goals as goal

pub returns-clause-hidden : goal.returns-clause-hidden
returns-clause-hidden c =
    told c.self.inside.names.items c.as_slice.result.now c.self.inside.places c.args.name c.as_slice-2.result.now c.in_ok-before.before c.place_if_named-hides.result
    c.self.invariant (c.as_slice.ensures.value ∙ c.in_ok-reserve.ensures.items) c.as_slice-2.ensures c.in_ok-before.ensures.before c.place_if_named-hides.ensures
    ∙ ap (λ z. last_place z c.args.name) c.self.view_is

pub invariant_of-self-2 : goal.invariant_of-self-2
invariant_of-self-2 c =
    let hides =
    told c.self.inside.names.items c.as_slice.result.now c.self.inside.places c.args.name c.as_slice-2.result.now c.in_ok-before.before c.place_if_named-hides.result
    c.self.invariant (c.as_slice.ensures.value ∙ c.in_ok-reserve.ensures.items) c.as_slice-2.ensures c.in_ok-before.ensures.before c.place_if_named-hides.ensures in
    pushed c.self.inside.names.items c.reserve.new.self.items c.push_reserved.new.self.items _ c.self.inside.places c.put.new.self c.in_ok-number.number
    c.self.invariant c.in_ok-reserve.ensures.items c.push_reserved.ensures.items hides (c.in_ok-number.ensures.number ∙ c.len.ensures ∙ c.self.inside.names.ok.0) c.in_ok-before.ensures.put
