use Rattle.jl_search.proofs.LiftedLemmas.{none_lifted, some_lifted}
use Rattle.jl_search.proofs.find.lifted.Goals as goal

pub returns-in-None : goal.returns-in-None
returns-in-None c = none_lifted c.args.table.now c.args.name c.args.target c.args.arguments.now c.if-name-target.false c.in-None.ensures

pub returns-in_ok-found-in-Some : goal.returns-in_ok-found-in-Some
returns-in_ok-found-in-Some c =
    some_lifted c.args.table.now c.args.name c.args.target c.args.arguments.now c.as_slice-in-Some.result.now c.as_slice.result.now c.in_ok-found-in-Some.found c.in-Some.over.now
    c.if-name-target.false c.in-Some.ensures c.as_slice-in-Some.ensures c.as_slice.ensures c.in_ok-found-in-Some.ensures
