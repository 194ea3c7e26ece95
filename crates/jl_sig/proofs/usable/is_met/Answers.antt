use Rattle.std.proofs.Common.{◌∙◌, sym, ap, min, map}
use Rattle.std.specs.List.{list_any}
use Rattle.jl_model.specs.Kinds.{places, plus_all}
use Rattle.jl_model.specs.Refusals.{bound_types}
use Rattle.jl_model.specs.Usable.{stands_in}
use Rattle.jl_sig.proofs.StandLemmas.{met_none, met_free, met_below}
use Rattle.jl_sig.proofs.usable.is_met.Goals as goal

pub returns-then-not-stands_in_some : goal.returns-then-not-stands_in_some
returns-then-not-stands_in_some c =
    let v = c.args.variable in
    met_none c.args.written.now v (sym (c.stands_in_some.ensures ∙ ap (list_any (stands_in v)) c.as_slice-parts.ensures) ∙ c.if-not-stands_in_some.true)

pub returns-then-not-stands_in_bounds : goal.returns-then-not-stands_in_bounds
returns-then-not-stands_in_bounds c =
    let v = c.args.variable in
    met_free c.args.written.now v (sym (c.stands_in_some.ensures ∙ ap (list_any (stands_in v)) c.as_slice-parts.ensures) ∙ c.if-not-stands_in_some.false)
    (sym (c.stands_in_bounds.ensures ∙ ap (λ z. list_any (stands_in v) (bound_types z)) c.as_slice.ensures) ∙ c.if-not-stands_in_bounds.true)

pub returns : goal.returns
returns c =
    let v = c.args.variable in
    met_below c.args.written.now v c.places_in_all-found.result.invariant (sym (c.stands_in_bounds.ensures ∙ ap (λ z. list_any (stands_in v) (bound_types z)) c.as_slice.ensures) ∙ c.if-not-stands_in_bounds.false)
    (c.places_in_all-found.ensures.invariant ∙ ap (λ z. min (plus_all (map (places v) z)).invariant 2) c.as_slice-parts.ensures)
