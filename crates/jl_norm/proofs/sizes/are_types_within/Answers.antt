use Rattle.std.proofs.Common.{◌≡◌, subst, sym, true, false}
use Rattle.jl_model.specs.Kept.{field_types}
use Rattle.jl_model.specs.Refusals.{bound_types, AllWithinLimits}
use Rattle.jl_norm.proofs.SizeLemmas.{types_within, bounds_within, parent_within}
use Rattle.jl_norm.proofs.sizes.are_types_within.Goals as goal

pub returns-then-not-are_bounds_within : goal.returns-then-not-are_bounds_within
returns-then-not-are_bounds_within c = (
  (λ h. let e : false ≡ true = h in cc),
  (λ h.
      let g = subst (λ z. AllWithinLimits (bound_types z)) (sym c.as_slice.ensures) (bounds_within c.args.decl.now h) in
      let e : c.are_bounds_within.result ≡ true = c.are_bounds_within.ensures.1 g in
      let f : c.are_bounds_within.result ≡ false = c.if-not-are_bounds_within.true in
      cc),
)

pub returns-then-not-is_within : goal.returns-then-not-is_within
returns-then-not-is_within c = (
  (λ h. let e : false ≡ true = h in cc),
  (λ h.
      let e : c.is_within.result ≡ true = c.is_within.ensures.1 (parent_within c.args.decl.now h).0 in
      let f : c.is_within.result ≡ false = c.if-not-is_within.true in
      cc),
)

pub returns : goal.returns
returns c = (
  (λ h.
      let b = subst (λ z. AllWithinLimits (bound_types z)) c.as_slice.ensures (c.are_bounds_within.ensures.0 c.if-not-are_bounds_within.false) in
      let f = subst (λ z. AllWithinLimits (field_types z)) c.as_slice-2.ensures (c.are_fields_within.ensures.0 h) in
      types_within c.args.decl.now b (c.is_within.ensures.0 c.if-not-is_within.false) f),
  (λ h. c.are_fields_within.ensures.1 (subst (λ z. AllWithinLimits (field_types z)) (sym c.as_slice-2.ensures) (parent_within c.args.decl.now h).1)),
)
