use Rattle.std.proofs.Common.{◌≡◌, subst, inl, inr, true, not}
use Rattle.jl_subsig.proofs.best.precedes.Goals as goal

pub returns-then-other-method-2 : goal.returns-then-other-method-2
returns-then-other-method-2 c h = inr (c.in_ok-sig_sub.ensures.0 c.if-not-branch.false, inl c.if-other-method-2.true)

pub returns : goal.returns
returns c h =
    inr (
      c.in_ok-sig_sub.ensures.0 c.if-not-branch.false,
      inr (λ up.
          let e : c.in_ok-is_above.is_above ≡ true = c.in_ok-is_above.ensures.1 up in
          let z : not true ≡ true = subst (λ b. not b ≡ true) e h in cc),
    )
