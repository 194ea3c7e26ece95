use Rattle.std.proofs.Common.{◌∙◌, ap}
use Rattle.jl_written.specs.Meaning.{names_of}
use Rattle.jl_resolve_forms.specs.Expressions.{static_parameters}
use Rattle.jl_resolve_forms.proofs.FlagLemmas.{static_names}
use Rattle.jl_resolve_forms.proofs.methods.static_parameters.Goals as goal

pub renew-requires : goal.renew-requires
renew-requires c =
    ap names_of (c.in_ok-renewed.ensures ∙ ap (static_parameters c.args.written.now) c.as_slice.ensures) ∙ static_names c.args.written.now c.args.vars

pub returns : goal.returns
returns c = c.renew.ensures ∙ c.in_ok-renewed.ensures ∙ ap (static_parameters c.args.written.now) c.as_slice.ensures
