use Rattle.std.proofs.Common.{◌∙◌, ap, List}
use Rattle.jl_program.specs.declared.tree.Item.{Item as Statement}
use Rattle.jl_resolve_forms.specs.declared.state.Scope.{Scope}
use Rattle.jl_resolve_forms.specs.Resolver.{Resolution}
use Rattle.jl_resolve_forms.specs.Expressions.{bare_scope}
use Rattle.jl_resolve_forms.specs.Top.{all_top, program_as}
use Rattle.jl_resolve_walk.proofs.top.resolve.Goals as goal

pub returns : goal.returns
returns g c =
    let ts = g.J.Judge.tests c.args.judge.now in
    let k = c.args.known.now in
    let xs = c.args.items.now in
    c.in_ok-program.ensures
    ∙ ap (λ (x : Resolution (List Statement × Scope)). program_as k x.value.0 x.after)
    (c.in_ok-top.ensures
    ∙ ap (λ z. all_top ts k xs z c.in_ok-state.state) c.bare_scope-scope.ensures
    ∙ ap (λ z. all_top ts k xs (bare_scope 8) z) c.in_ok-state.ensures)
