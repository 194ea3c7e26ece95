use Rattle.jl_resolve_forms.proofs.TypeSteps.{body_steps}
use Rattle.jl_resolve_forms.proofs.types.type_in_body.Goals as goal

pub returns : goal.returns
returns g c =
    body_steps (g.J.Judge.tests c.args.judge.now)
    c.args.known.now c.args.text.now c.args.scope.now c.args.state.now c.type_at.new.state
    c.declared_at-decls.result c.start_of.result c.in_ok-ty.ty c.in_ok-ty.reading c.in_ok-written.written
    c.declared_at-decls.ensures c.start_of.ensures c.in_ok-ty.ensures c.in_ok-written.ensures
