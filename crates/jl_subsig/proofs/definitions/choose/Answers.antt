use Rattle.std.proofs.Common.{sym, subst, map}
use Rattle.std.specs.List.Sorted.{IsStrictlyIncreasing}
use Rattle.jl_subsig.specs.declared.choice.Method.{Method}
use Rattle.jl_subsig.proofs.DefinitionLemmas.{numbers_increase, single, chosen_of_one, chosen_of_methods}
use Rattle.jl_subsig.proofs.definitions.choose.Goals as goal

pub choose_method-requires-clause-ordered : goal.choose_method-requires-clause-ordered
choose_method-requires-clause-ordered c =
    subst (λ ms. IsStrictlyIncreasing (map (λ (m : Method). m.number) ms)) (sym c.as_slice.ensures.value)
    (numbers_increase c.args.ready.now c.in_ok-methods-in_default.methods.items c.args.defs.now c.in_ok-methods-in_default.ensures.made c.requires.ordered)

pub returns-in-len1 : goal.returns-in-len1
returns-in-len1 c = chosen_of_one c.args.ready.now c.args.defs.now _ (single c.args.defs.now (record { world = 0; site = 0 }) c.in-len1.len_at_least c.in-len1.len_below)

pub returns-in_ok-choice-in_default : goal.returns-in_ok-choice-in_default
returns-in_ok-choice-in_default c =
    chosen_of_methods c.args.ready.now c.args.defs.now c.in_ok-methods-in_default.methods.items c.as_slice.result.now c.table.result.now c.in_ok-choice-in_default.choice
    c.in_ok-methods-in_default.ensures.made c.as_slice.ensures.value c.table.ensures c.in_ok-choice-in_default.ensures
