use Rattle.std.proofs.Common.{◌∙◌, ap, refl, ◌+◌, true, false, List, drop}
use Rattle.std.proofs.lemmas.List.{take_rest}
use Rattle.jl_program.specs.declared.tree.Expr.{Expr}
use Rattle.jl_frames.specs.Held.{waits_args}
use Rattle.jl_task.specs.Skip.{skip_args}
use Rattle.jl_machine.specs.Lent.{now_of}
use Rattle.jl_machine.proofs.NumberLemmas.{parts_from, no_more, is_simple, parts_more, parts_wait, parts_done}
use Rattle.jl_machine.proofs.task.Task.go_parts.Goals as goal

pub loop-i-preserved : goal.loop-i-preserved
loop-i-preserved g c =
    let e = c.args.expr.now in
    let t0 = c.args.self.now in
    let t = c.loop-i.self in
    let t' = c.push_simple.new.self in
    let x = c.index-parts-i.result in
    parts_more _ e (skip_args e t0.now.frames.open_values c.args.parts.now (now_of t0.now)) t0 x (drop c.loop-i.i c.args.parts.now) (drop (c.loop-i.i + 1) c.args.parts.now) t t'
    (parts_from c.args.parts.now c.loop-i.i x c.loop-i-test.true c.index-parts-i.is) c.loop-i.invariant (is_simple _ x t t' c.in_ok-push_simple.field-0 true c.if-not-branch.false c.in_ok-push_simple.ensures)

pub returns-then-not-branch : goal.returns-then-not-branch
returns-then-not-branch g c =
    let e = c.args.expr.now in
    let t0 = c.args.self.now in
    let t = c.loop-i.self in
    let t' = c.push_simple.new.self in
    let x = c.index-parts-i.result in
    parts_wait _ e (skip_args e t0.now.frames.open_values c.args.parts.now (now_of t0.now)) t0 x (drop c.loop-i.i c.args.parts.now) (drop (c.loop-i.i + 1) c.args.parts.now) t t' c.wait_args.new.self _
    (parts_from c.args.parts.now c.loop-i.i x c.loop-i-test.true c.index-parts-i.is) c.loop-i.invariant (is_simple _ x t t' c.in_ok-push_simple.field-0 false c.if-not-branch.true c.in_ok-push_simple.ensures)
    (c.in_ok-wait_args.ensures ∙ ap (λ (ys : List Expr). waits_args t'.now.frames e ys) (take_rest c.args.parts.now (c.loop-i.i + 1))) (λ n. refl) (λ n h. h)

pub returns : goal.returns
returns g c =
    let e = c.args.expr.now in
    let t0 = c.args.self.now in
    let t = c.loop-i.self in
    parts_done _ e (skip_args e t0.now.frames.open_values c.args.parts.now (now_of t0.now)) t0 (drop c.loop-i.i c.args.parts.now) t _ (no_more c.args.parts.now c.loop-i.i c.loop-i-test.false) c.loop-i.invariant
    (record { point = refl; settled = c.loop-i.invariant.text })
