use Rattle.std.proofs.Common.{◌≡◌, true, false}
use Rattle.jl_norm.proofs.checked.checked.Goals as goal

pub returns-then-is_crossed : goal.returns-then-is_crossed
returns-then-is_crossed c = (c.in_default.ensures, c.in-Ok.ensures.within.small, c.is_crossed.ensures.0 c.if-is_crossed.true)

pub returns-then-kept : goal.returns-then-kept
returns-then-kept c = (
  c.in_default.ensures,
  c.in-Ok.ensures.within.small,
  (λ x. let e : c.is_crossed.result ≡ true = c.is_crossed.ensures.1 x in let f : c.is_crossed.result ≡ false = c.if-is_crossed.false in cc),
  c.in-Ok.ensures.broken c.if-kept.true,
)
