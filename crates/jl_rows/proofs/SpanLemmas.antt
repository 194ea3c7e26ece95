-- The worlds around one, from the last change up to it and the next one past it.
use Rattle.std.proofs.Common.{◌≡◌, ◌∙◌, sym, subst, refl, ℕ, ◌+◌, ◌<◌, ◌≤◌, ◌⊎◌, inl, inr, max, arith, Option, None, Some}
use Rattle.std.proofs.Math.Nat.{max-eq_left, max-eq_right}
use Rattle.jl_program.specs.Prelude.{prelude_count}
use Rattle.jl_methods.specs.Links.{IsLast, IsNext}
use Rattle.jl_rows.specs.Spans.{NoneBetween, EndsSo, IsSpanAt}

module _ (Is : ℕ → Type 0) (w last : ℕ) (base : prelude_count ≤ w) (h : IsLast Is w last) where
  -- where the worlds begin
  record HasFirst (first : ℕ) : Type 0 where
    pub begun : (first ≡ prelude_count) ⊎ ((prelude_count < first) × Is first)
    pub low : first ≤ w
    pub passed : last ≤ first

  which : (a b : ℕ) → (a ≤ b) ⊎ (b < a)
  which a b = grind arith

  first_at : (first : ℕ) → first ≡ max last prelude_count → HasFirst first
  first_at first e = by (which last prelude_count)
    where
      stands : prelude_count < last → (last ≡ 0) ⊎ Is last → Is last
      stands l (inl z) = absurd (omega (arith, l, z))
      stands l (inr i) = i

      by : (last ≤ prelude_count) ⊎ (prelude_count < last) → HasFirst first
      by (inl l) =
          let q : first ≡ prelude_count = e ∙ max-eq_right l in
          record { begun = inl q; low = omega (arith, q, base); passed = omega (arith, l, q) }
      by (inr l) =
          let q : first ≡ last = e ∙ max-eq_left (omega (arith, l)) in
          let up = h.low in
          record { begun = inr (omega (arith, q, l), subst Is (sym q) (stands l h.there)); low = omega (arith, q, up); passed = omega (arith, q) }

  between : (first : ℕ) → HasFirst first → NoneBetween Is first w
  between first f d i past low = let m = h.none_later d i low in let p = f.passed in omega (arith, m, p, past)

  pub span_open : (first : ℕ) → first ≡ max last prelude_count → IsNext Is w None → IsSpanAt Is w (record { first = first; last = None })
  span_open first e none =
      let f = first_at first e in
      record { begun = f.begun; low = f.low; between = between first f; ends = λ d i past. (let m = none d i in between first f d i past m) }

  pub span_closed : (first next end : ℕ) → first ≡ max last prelude_count → IsNext Is w (Some next) → end + 1 ≡ next → IsSpanAt Is w (record { first = first; last = Some end })
  span_closed first next end e (past, there, least) q =
      let f = first_at first e in
      let low = f.low in
      record { begun = f.begun; low = low; between = between first f; ends = (omega (arith, low, past, q), subst Is (sym q) there, ends f) }
    where
      which_side : (d : ℕ) → (d ≤ w) ⊎ (w < d)
      which_side d = which d w

      ends : HasFirst first → NoneBetween Is first end
      ends f d i after up = by (which_side d)
        where
          by : (d ≤ w) ⊎ (w < d) → ⊥
          by (inl l) = between first f d i after l
          by (inr l) = let m = least d i l in omega (arith, m, up, q)
