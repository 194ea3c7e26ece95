use Rattle.std.proofs.Common.{◌≡◌, drop}
use Rattle.jl_resolve_forms.specs.Top.{all_top}
use Rattle.jl_resolve_walk.specs.Steps.{scoped_behind}
use Rattle.jl_resolve_walk.proofs.top.all_top.Given as goal

abbrev pub invariant-loop-text : goal.invariant-loop-text
invariant-loop-text g l =
    let ts = g.J.Judge.tests l.judge in
    scoped_behind l.out (all_top ts l.known (drop l.text-index l.texts) l.scope l.state) ≡ all_top ts l.known l.texts l.initial.scope l.initial.state
