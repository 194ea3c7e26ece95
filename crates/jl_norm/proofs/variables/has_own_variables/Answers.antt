use Rattle.std.proofs.Common.{◌≡◌, ◌∙◌, sym, ap, length}
use Rattle.std.specs.List.{flat_map, list_all}
use Rattle.std.proofs.Common.{nat_lt}
use Rattle.jl_model.specs.Rows.{vars_in}
use Rattle.jl_model.specs.Refusals.{types_of}
use Rattle.jl_norm.specs.Variables.{has_variables_below}
use Rattle.jl_norm.proofs.ReadyLemmas.{all_vars}
use Rattle.jl_norm.proofs.variables.has_own_variables.Goals as goal

pub returns : goal.returns
returns c =
    let d = c.args.decl.now in
    let e : c.as_slice.result.now ≡ types_of d = c.as_slice.ensures.value ∙ c.in_ok-types.ensures in
    let f : c.have_variables_below.result ≡ list_all (λ v. nat_lt v (length d.params)) (flat_map vars_in (types_of d)) =
    c.have_variables_below.ensures ∙ ap (λ n. list_all (has_variables_below n) c.as_slice.result.now) c.len.ensures ∙ ap (list_all (has_variables_below (length d.params))) e ∙ sym (all_vars (length d.params) (types_of d)) in
    ((λ h. sym f ∙ h), (λ h. f ∙ h))
