use Rattle.std.proofs.Common.{◌≡◌, map, true, false, IsTrue, ◌↔◌}
use Rattle.jl_model.specs.declared.ty.Ty.TheViews as V
use Rattle.jl_model.specs.Refusals.{ancestors, types_of, sized_types, AllWithinLimits}
use Rattle.jl_norm.proofs.SizeLemmas.{ok_map, on_err, within_append, within_front, within_back}
use Rattle.jl_norm.proofs.sizes.is_sized.Goals as goal

pub returns-then-not-are_types_within-clause-sized : goal.returns-then-not-are_types_within-clause-sized
returns-then-not-are_types_within-clause-sized c = (
  (λ h. let e : false ≡ true = h in cc),
  (λ h.
      let g = within_front (types_of c.args.decl.now) (map (λ a. V.Nominal a.name a.args) (ancestors c.args.table.now c.args.decl.now)) h in
      let e : c.are_types_within.result ≡ true = c.are_types_within.ensures.1 g in
      let f : c.are_types_within.result ≡ false = c.if-not-are_types_within.true in
      cc),
)

pub returns-clause-sized : goal.returns-clause-sized
returns-clause-sized c =
    let ts = types_of c.args.decl.now in
    let us = map (λ a. V.Nominal a.name a.args) (ancestors c.args.table.now c.args.decl.now) in
    let small = c.are_types_within.ensures.0 c.if-not-are_types_within.false in
    ok_map c.is_line_within.result (λ b. IsTrue b ↔ AllWithinLimits us) (λ b. IsTrue b ↔ AllWithinLimits (sized_types c.args.table.now c.args.decl.now))
    (λ b h. ((λ t. within_append ts us small (h.0 t)), (λ g. h.1 (within_back ts us g)))) c.is_line_within.ensures

pub returns-clause-written : goal.returns-clause-written
returns-clause-written c = on_err c.is_line_within.result (AllWithinLimits (types_of c.args.decl.now)) (c.are_types_within.ensures.0 c.if-not-are_types_within.false)
