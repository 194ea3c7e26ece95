use Rattle.jl_choosing.proofs.PickLemmas.{applies_to, applies_from}
use Rattle.jl_choosing.proofs.choosing.is_applicable.Goals as goal

pub returns-in-Some-clause-yes : goal.returns-in-Some-clause-yes
returns-in-Some-clause-yes c = λ t.
    applies_to c.args.ready.now c.args.def c.args.types.now c.table.result.now _ c.table.ensures c.sig.ensures.written (c.in_ok-bindings.ensures.applies c.in-Some.bindings c.in-Some.is)

pub returns-in-None-clause-none : goal.returns-in-None-clause-none
returns-in-None-clause-none c = λ e a.
    c.in_ok-bindings.ensures.none c.in-None.is (applies_from c.args.ready.now c.args.def c.args.types.now c.table.result.now _ c.table.ensures c.sig.ensures.written a)
