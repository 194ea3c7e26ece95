-- A row of a key that begins in a world has one site alone, and rows that cover one world begin in the same.
use Rattle.std.proofs.Common.{◌≡◌, ◌∙◌, ap, sym, ℕ, ◌<◌, ◌≤◌, inl, inr, arith, List}
use Rattle.jl_model.specs.declared.ty.Key.{Key}
use Rattle.jl_program.specs.declared.tree.Program.{Program}
use Rattle.jl_program.specs.declared.choice.Choice.{Choice}
use Rattle.jl_program.specs.declared.choice.Choice.TheVariants as C
use Rattle.jl_calculus.specs.declared.history.Event.{Event}
use Rattle.jl_calculus.specs.Ranges.{Covers, SelectsSite, MayBegin, IsRightFill}
use Rattle.jl_calculus.specs.World.{site_of}
use Rattle.jl_calculus.proofs.SelectLemmas.{selects_one}

abbrev method_number : Choice → ℕ
method_number (C.Method d) = d
method_number C.None = 0
method_number (C.Ambiguous a b) = 0

pub one_site : (P : Program) (es : List Event) (key : Key) (w s t : ℕ) → SelectsSite P es key w s → SelectsSite P es key w t → s ≡ t
one_site P es key w s t (c, h, e) (d, k, f) = sym e ∙ ap (site_of es) (ap method_number (selects_one P es key.function key.types w (C.Method c) (C.Method d) h k)) ∙ f

pub one_right_site : (P : Program) (es : List Event) (key : Key) (s t first : ℕ) → IsRightFill P es key s first → IsRightFill P es key t first → s ≡ t
one_right_site P es key s t first h k = one_site P es key first s t h.choice k.choice

-- a row may not begin after another one that covers a world, up to that world
not_after : (P : Program) (es : List Event) (key : Key) (a b w : ℕ) → MayBegin P es key a → MayBegin P es key b → Covers P es key a w → b ≤ w → a < b → ⊥
not_after P es key a b w (inl e) (inl f) h l m = absurd (omega (arith, e, f, m))
not_after P es key a b w (inl e) (inr (low, t)) h l m = h.going b m l t
not_after P es key a b w (inr (low, u)) (inl f) h l m = absurd (omega (arith, low, f, m))
not_after P es key a b w (inr (low, u)) (inr (high, t)) h l m = h.going b m l t

pub one_first : (P : Program) (es : List Event) (key : Key) (a b w : ℕ) → MayBegin P es key a → MayBegin P es key b → Covers P es key a w → Covers P es key b w → a ≡ b
one_first P es key a b w m n h k = grind (arith, not_after P es key a b w m n h k.begun, not_after P es key b a w n m k h.begun)
