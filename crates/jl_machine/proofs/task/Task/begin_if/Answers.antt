use Rattle.std.proofs.Common.{refl}
use Rattle.jl_machine.specs.Lent.{now_of}
use Rattle.jl_machine.proofs.NumberLemmas.{if_moves, then_goes, else_goes, if_waits}
use Rattle.jl_machine.proofs.task.Task.begin_if.Goals as goal

pub returns-then-truth : goal.returns-then-truth
returns-then-truth g c =
    let t = c.args.self.now in
    let b = c.in-Some.truth in
    if_moves _ t c.args.expr.now c.args.test.now c.args.yes.now c.args.no.now c.args.yes.now b _ c.requires.form (then_goes c.args.test.now c.args.yes.now c.args.no.now b (now_of t.now) c.if-truth.true) c.in-Some.ensures c.requires.fits
    (record { point = refl; settled = c.requires.settled })

pub returns-else-truth : goal.returns-else-truth
returns-else-truth g c =
    let t = c.args.self.now in
    let b = c.in-Some.truth in
    if_moves _ t c.args.expr.now c.args.test.now c.args.yes.now c.args.no.now c.args.no.now b _ c.requires.form (else_goes c.args.test.now c.args.yes.now c.args.no.now b (now_of t.now) c.if-truth.false) c.in-Some.ensures c.requires.fits
    (record { point = refl; settled = c.requires.settled })

pub returns-in_ok-wait_test-in-None : goal.returns-in_ok-wait_test-in-None
returns-in_ok-wait_test-in-None g c =
    if_waits _ c.args.self.now c.args.expr.now c.args.test.now c.args.yes.now c.args.no.now c.wait_test.new.self _ c.requires.form c.requires.settled c.requires.fits c.in_ok-wait_test-in-None.ensures (λ n. refl) (λ n h. h)
