use Rattle.std.proofs.Common.{◌∙◌, ap, slice_get, refl}
use Rattle.jl_model.specs.Valid.{params_of}
use Rattle.jl_resolve_forms.proofs.TypeSteps.{made_steps}
use Rattle.jl_resolve_forms.proofs.types.make_at.Goals as goal

pub returns : goal.returns
returns g c =
    made_steps (g.J.Judge.tests c.args.judge.now)
    c.args.known.now c.args.at c.args.number c.args.texts.now c.args.scope.now c.args.state.now c.make_type.new.state
    c.declared_at-decls.result c.params_of-bounds.result.now c.in_ok-ty.ty c.in_ok-ty.reading _ c.in_ok-written.written
    c.declared_at-decls.ensures (c.params_of-bounds.ensures ∙ ap (λ ds. params_of (slice_get ds c.args.number)) (c.as_slice.ensures ∙ c.list.ensures)) refl c.in_ok-ty.ensures c.in_ok-written.ensures
