use Rattle.std.proofs.Common.{◌∙◌, sym, refl, length}
use Rattle.std.specs.List.{list_all}
use Rattle.jl_model.specs.Valid.{is_known}
use Rattle.jl_causes.specs.KeyTypes.{IsKept}
use Rattle.jl_causes.proofs.KeptLemmas.{no_of, fails_with, values_known, values_counted, values_closed, value_types, rest_more, rest_none, known_of}
use Rattle.jl_causes.proofs.key_types.are_value_types.Goals as goal

pub returns-then-not-are_known : goal.returns-then-not-are_known
returns-then-not-are_known c =
    let ds = c.args.table.now in
    let ts = c.args.types.now in
    no_of (λ h. fails_with c.are_known.result (list_all (is_known (length ds)) ts) (known_of ds ts c.from.result c.are_known.result (c.from.ensures ∙ c.count.ensures) c.are_known.ensures) c.if-not-are_known.true (values_known ds ts h))

pub returns-then-not-are_counted : goal.returns-then-not-are_counted
returns-then-not-are_counted c =
    no_of (λ h. fails_with c.are_counted.result _ c.are_counted.ensures c.if-not-are_counted.true (values_counted c.args.table.now c.args.types.now h))

pub returns-then-not-are_closed : goal.returns-then-not-are_closed
returns-then-not-are_closed c =
    no_of (λ h. fails_with c.are_closed.result _ c.are_closed.ensures c.if-not-are_closed.true (values_closed c.args.table.now c.args.types.now h))

pub loop-ty-preserved : goal.loop-ty-preserved
loop-ty-preserved c =
    rest_more (IsKept c.args.table.now) c.args.types.now c.loop-ty.ty-index c.ty-item.result c.loop-ty-test.true (sym c.ty-item.is) (c.in_ok-kept.ensures.0 c.if-not-kept.false) c.loop-ty.invariant

pub returns : goal.returns
returns c =
    let ds = c.args.table.now in
    let ts = c.args.types.now in (
      (λ yes. value_types ds ts
          (sym (known_of ds ts c.from.result c.are_known.result (c.from.ensures ∙ c.count.ensures) c.are_known.ensures) ∙ c.if-not-are_known.false)
          (sym c.are_counted.ensures ∙ c.if-not-are_counted.false) (sym c.are_closed.ensures ∙ c.if-not-are_closed.false)
          (rest_none (IsKept ds) ts c.loop-ty.ty-index c.loop-ty-test.false c.loop-ty.invariant)),
      (λ h. refl),
    )
