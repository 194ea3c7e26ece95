use Rattle.std.proofs.Common.{sym, ◌∙◌, arith, ◌∷◌, []}
use Rattle.jl_work.proofs.SplitLemmas.{place_within}
use Rattle.jl_embed.proofs.SessionLemmas.{parts_some}
use Rattle.jl_embed.proofs.top.parts.Goals as goal

pub split_at-requires : goal.split_at-requires
split_at-requires c = place_within (c.as_bytes.result.now ∷ []) c.args.bytes.now c.in_ok-place.place (sym c.separator_among.ensures ∙ c.in_ok-place.was)

pub returns : goal.returns
returns c =
    parts_some c.args.bytes.now c.as_bytes.result.now c.split_at.result.0.now c.split_at.result.1.now c.separator_among.result c.in_ok-place.place c.min.result c.separator_among.ensures c.as_bytes.ensures.value c.in_ok-place.was
    c.split_at.ensures.front c.split_at.ensures.back (omega (arith, c.min.ensures)) (omega (arith, c.min.ensures)) (λ l. omega (arith, c.min.ensures, l))
