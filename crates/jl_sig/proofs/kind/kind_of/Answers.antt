use Rattle.std.proofs.Common.{◌∙◌, sym, ap, arith, min, map}
use Rattle.std.specs.List.{list_any}
use Rattle.jl_model.specs.Kinds.{places, plus_all}
use Rattle.jl_model.specs.Refusals.{bound_types}
use Rattle.jl_model.specs.Usable.{stands_in}
use Rattle.jl_sig.proofs.StandLemmas.{kind_stands, told_unused, told_once, told_diagonal}
use Rattle.jl_sig.proofs.kind.kind_of.Goals as goal

pub returns-then-stands_in_bounds : goal.returns-then-stands_in_bounds
returns-then-stands_in_bounds c =
    let w = c.args.written.now in
    let v = c.args.variable in
    sym (kind_stands w v (sym (c.stands_in_bounds.ensures ∙ ap (λ z. list_any (stands_in v) (bound_types z)) c.as_slice-2.ensures) ∙ c.if-stands_in_bounds.true))

pub returns-then-found-eq0 : goal.returns-then-found-eq0
returns-then-found-eq0 c =
    let w = c.args.written.now in
    let v = c.args.variable in
    let f = c.places_in_all-found.result in
    told_unused w v f.covariant f.invariant (c.places_in_all-found.ensures.covariant ∙ ap (λ z. min (plus_all (map (places v) z)).covariant 2) c.as_slice.ensures)
    (c.places_in_all-found.ensures.invariant ∙ ap (λ z. min (plus_all (map (places v) z)).invariant 2) c.as_slice.ensures) (omega (arith, c.if-found-gt0.false))
    (sym (c.stands_in_bounds.ensures ∙ ap (λ z. list_any (stands_in v) (bound_types z)) c.as_slice-2.ensures) ∙ c.if-stands_in_bounds.false) c.if-found-eq0.true

pub returns-then-found-eq1 : goal.returns-then-found-eq1
returns-then-found-eq1 c =
    let w = c.args.written.now in
    let v = c.args.variable in
    let f = c.places_in_all-found.result in
    told_once w v f.covariant f.invariant (c.places_in_all-found.ensures.covariant ∙ ap (λ z. min (plus_all (map (places v) z)).covariant 2) c.as_slice.ensures)
    (c.places_in_all-found.ensures.invariant ∙ ap (λ z. min (plus_all (map (places v) z)).invariant 2) c.as_slice.ensures) (omega (arith, c.if-found-gt0.false))
    (sym (c.stands_in_bounds.ensures ∙ ap (λ z. list_any (stands_in v) (bound_types z)) c.as_slice-2.ensures) ∙ c.if-stands_in_bounds.false) c.if-found-eq1.true

pub returns-else-found-eq1 : goal.returns-else-found-eq1
returns-else-found-eq1 c =
    let w = c.args.written.now in
    let v = c.args.variable in
    let f = c.places_in_all-found.result in
    told_diagonal w v f.covariant f.invariant (c.places_in_all-found.ensures.covariant ∙ ap (λ z. min (plus_all (map (places v) z)).covariant 2) c.as_slice.ensures)
    (c.places_in_all-found.ensures.invariant ∙ ap (λ z. min (plus_all (map (places v) z)).invariant 2) c.as_slice.ensures) (omega (arith, c.if-found-gt0.false))
    (sym (c.stands_in_bounds.ensures ∙ ap (λ z. list_any (stands_in v) (bound_types z)) c.as_slice-2.ensures) ∙ c.if-stands_in_bounds.false) c.if-found-eq0.false c.if-found-eq1.false
