use Rattle.jl_causes.proofs.KeptLemmas.{no_of}
use Rattle.jl_causes.proofs.SiteLemmas.{alike_not, alike_when}
use Rattle.jl_causes.proofs.standing.is_alike.Goals as goal

pub returns-then-function-other : goal.returns-then-function-other
returns-then-function-other c =
    no_of (alike_not c.args.ready.now c.args.site c.args.place c.function_of_site-function.result c.function_of_place-other.result c.function_of_site-function.ensures c.function_of_place-other.ensures c.if-function-other.true)

pub returns : goal.returns
returns c =
    alike_when c.args.ready.now c.args.site c.args.place c.function_of_site-function.result c.function_of_place-other.result c.function_of_site-function.ensures c.function_of_place-other.ensures c.if-function-other.false c.requires.site c.requires.place
    c.in_ok-is_same.is_same c.in_ok-is_same.ensures
