use Rattle.std.proofs.Common.{◌∙◌, sym, ap, subst, ◌≤◌, ◌-◌, take}
use Rattle.jl_names.specs.Numbers.{count_named, named_slots}
use Rattle.jl_names.proofs.NumberLemmas.{named_cut, named_few, part_from}
use Rattle.jl_names.proofs.slots.Slots.truncate.Goals as goal

pub overflow_sub-kept : goal.overflow_sub-kept
overflow_sub-kept c =
    subst (λ z. c.count_named-dropped.result ≤ z) (sym c.len-2.ensures)
    (named_few c.self.inside.numbers c.self.inside.names.items c.args.most c.count_named-dropped.result c.self.invariant (c.count_named-dropped.ensures ∙ ap count_named (part_from _ c.self.inside.names.items c.args.most c.as_slice.ensures.value)))

pub invariant_of-self : goal.invariant_of-self
invariant_of-self c =
    named_cut c.self.inside.numbers c.truncate.new.self c.self.inside.names.items c.args.most c.count_named-dropped.result c.self.invariant
    (c.count_named-dropped.ensures ∙ ap count_named (part_from _ c.self.inside.names.items c.args.most c.as_slice.ensures.value))
    (c.truncate.ensures ∙ ap (λ z. take (z - c.count_named-dropped.result) c.self.inside.numbers) c.len-2.ensures)
    ∙ sym (ap (named_slots 0) c.truncate-2.ensures.items)
