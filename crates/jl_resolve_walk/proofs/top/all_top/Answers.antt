use Rattle.std.proofs.Common.{ap}
use Rattle.jl_resolve_forms.specs.Top.{all_top}
use Rattle.jl_resolve_walk.specs.Steps.{scoped_behind}
use Rattle.jl_resolve_walk.proofs.Tops.{tops_step, tops_end}
use Rattle.jl_resolve_walk.proofs.top.all_top.Goals as goal

pub loop-text-init : goal.loop-text-init
loop-text-init g c =
    let ts = g.J.Judge.tests c.args.judge.now in
    ap (λ z. scoped_behind z (all_top ts c.args.known.now c.args.texts.now c.args.scope.now c.args.state.now)) c.new-out.ensures

pub loop-text-preserved : goal.loop-text-preserved
loop-text-preserved g c =
    let ts = g.J.Judge.tests c.args.judge.now in
    tops_step ts c.args.known.now c.args.texts.now c.loop-text.text-index c.text-item.result c.loop-text.out c.put_top.new.out c.loop-text.scope c.put_top.new.scope c.loop-text.state c.put_top.new.state _
    c.loop-text.invariant c.loop-text-test.true c.text-item.is c.in_ok-put_top.ensures

pub returns : goal.returns
returns g c =
    let ts = g.J.Judge.tests c.args.judge.now in
    tops_end ts c.args.known.now c.args.texts.now c.loop-text.text-index c.loop-text.out c.in_ok-out.out c.loop-text.scope c.loop-text.state _ c.loop-text.invariant c.loop-text-test.false c.in_ok-out.ensures
