use Rattle.std.proofs.Common.{◌≡◌, subst, arith, ◌++◌}
use Rattle.jl_ambig.specs.Asked.{AreFound, probes_up_to}
use Rattle.jl_ambig.proofs.AskLemmas.{first_found, up_next}
use Rattle.jl_ambig.proofs.ambiguity.ask_functions.Goals as goal

pub loop-function-init : goal.loop-function-init
loop-function-init c = λ es done same h. first_found c.args.made.now.0 es done c.args.pairs.now.items h

pub loop-function-preserved : goal.loop-function-preserved
loop-function-preserved c = λ es done same h.
    up_next c.args.made.now.0 es c.args.lists.now done c.loop-function.function c.ask_function.new.pairs.items
    (c.in_ok-ask_function.ensures es (done ++ probes_up_to c.loop-function.function c.args.lists.now) same (c.loop-function.invariant es done same h))

pub returns : goal.returns
returns c = λ es done same h.
    let at : c.loop-function.function ≡ c.args.above = omega (arith, c.loop-function-test.false, c.loop-function.auto.function-end) in
    subst (λ n. AreFound c.args.made.now.0 es (done ++ probes_up_to n c.args.lists.now) c.loop-function.pairs.items) at (c.loop-function.invariant es done same h)
