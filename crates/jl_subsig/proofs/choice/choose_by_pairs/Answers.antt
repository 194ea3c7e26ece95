use Rattle.std.proofs.Common.{◌∙◌, sym, subst}
use Rattle.jl_model.specs.Ancestors.{table_of}
use Rattle.jl_program.specs.Chooses.{Chooses}
use Rattle.jl_subsig.specs.Decide.{methods_in, candidates, choice_among}
use Rattle.jl_subsig.proofs.PlaceLemmas.{chosen}
use Rattle.jl_subsig.proofs.choice.choose_by_pairs.Goals as goal

pub returns : goal.returns
returns c ts a =
    let x = chosen c.args.methods.now (table_of c.args.table.now) c.in_ok-answers.answers.items c.in_ok-answers.ensures c.requires.ordered ts a in
    let r = c.as_slice-2.ensures.value ∙ c.in_ok-ranked.ensures in
    let k = c.as_slice-4.ensures.value ∙ c.in_ok-candidates.ensures ∙ (λ i. candidates (c.as_slice.ensures.value i) (r i)) in
    subst (Chooses (table_of c.args.table.now) (methods_in c.args.methods.now) ts)
    (sym (c.choose_among-choice.ensures ∙ (λ i. choice_among (c.as_slice-3.ensures.value i) (k i)))) x
