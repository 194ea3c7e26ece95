use Rattle.std.proofs.Common.{Ok, arith, rules, refl, sym, ap, ◌∙◌}
use Rattle.std.specs.Str.{chars}
use Rattle.std.proofs.lemmas.Result.{err_from_is_err_and}
use Rattle.jl_token.proofs.Texts.{full-bytes, full-chars, empty-chars}
use Rattle.jl_token.proofs.Loop.{takes, skips, stops, ends}
use Rattle.jl_token.proofs.source.read.Goals as goal

pub returns-in_err-kind : goal.returns-in_err-kind
returns-in_err-kind c =
    let p = err_from_is_err_and c.from_residual-in_err-kind.result c.from_residual-in_err-kind.ensures.1 in
    let full = full-chars c.loop-rest.rest.now c.loop-rest.invariant.0 (sym c.loop-rest-test.ensures) in
    rw (p.1, p.2) (stops _ _ c.loop-rest.found.items c.loop-rest.prefix _ c.in_err-kind.field-0.0 full c.in_err-kind.ensures.found c.loop-rest.invariant.1)

pub loop-rest-preserved-in_ok-push : goal.loop-rest-preserved-in_ok-push
loop-rest-preserved-in_ok-push c =
    let full = full-chars c.loop-rest.rest.now c.loop-rest.invariant.0 (sym c.loop-rest-test.ensures) in
    let after = chars c.in_ok-kind.after.now in (
      search rules,
      takes _ _ c.loop-rest.found.items _ c.loop-rest.prefix _ _ after c.in-Some.kind c.place-at.result full (c.in_ok-kind.ensures.found ∙ ap (λ o. Ok (o, after)) c.in-Some.is) c.is_prefix_after-prefix.ensures c.place-at.ensures c.in_ok-push.ensures.items c.loop-rest.invariant.1,
      omega (arith, c.in_ok-kind.ensures.shorter (full-bytes c.loop-rest.rest.now (sym c.loop-rest-test.ensures))),
    )

pub loop-rest-preserved : goal.loop-rest-preserved
loop-rest-preserved c =
    let full = full-chars c.loop-rest.rest.now c.loop-rest.invariant.0 (sym c.loop-rest-test.ensures) in
    let after = chars c.in_ok-kind.after.now in (
      search rules,
      skips _ _ c.loop-rest.found.items c.loop-rest.prefix _ after full (c.in_ok-kind.ensures.found ∙ ap (λ o. Ok (o, after)) c.in_default.is) c.loop-rest.invariant.1,
      omega (arith, c.in_ok-kind.ensures.shorter (full-bytes c.loop-rest.rest.now (sym c.loop-rest-test.ensures))),
    )

pub returns : goal.returns
returns c =
    ends _ _ c.loop-rest.found.items _ c.loop-rest.prefix _ _ (empty-chars c.loop-rest.rest.now (sym c.loop-rest-test.ensures)) refl (c.in_ok-from_vec.ensures ∙ c.in_ok-push-2.ensures.items) c.loop-rest.invariant.1
