use Rattle.std.proofs.Common.{◌<◌, arith, subst, length}
use Rattle.jl_calculus.specs.declared.history.Change.TheVariants as Ch
use Rattle.jl_calculus.specs.Legal.{MayCome}
use Rattle.jl_methods.proofs.FunctionLemmas.{function_of_known}
use Rattle.jl_methods.proofs.index.Index.reserve.Goals as goal

pub reserve_def-requires-clause-function : goal.reserve_def-requires-clause-function
reserve_def-requires-clause-function c =
    let P = c.args.ready.now in
    let may = subst (MayCome P c.requires.es) c.in-Def.is c.requires.may_come in
    omega (arith, function_of_known P c.valid.ensures (Ch.Def c.in-Def.site) may.may.1, c.function_of.ensures, c.requires.index.all_defs)

pub reserve_def-requires-clause-site : goal.reserve_def-requires-clause-site
reserve_def-requires-clause-site c =
    let P = c.args.ready.now in
    let may = subst (MayCome P c.requires.es) c.in-Def.is c.requires.may_come in
    omega (arith, may.may.1, c.requires.index.sites.all_worlds)
