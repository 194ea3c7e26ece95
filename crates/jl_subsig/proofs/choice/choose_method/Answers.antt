use Rattle.jl_model.specs.Ancestors.{table_of}
use Rattle.jl_subsig.proofs.BestLemmas.{chosen_at}
use Rattle.jl_subsig.proofs.choice.choose_method.Goals as goal

pub returns-then-branch : goal.returns-then-branch
returns-then-branch c ts a =
    chosen_at (table_of c.args.table.now) c.args.methods.now c.in_ok-likely.likely c.index-methods-likely.result c.in_ok-likely.ensures c.index-methods-likely.is ts a
    (c.in_ok-precedes_all.ensures c.if-branch.true)
