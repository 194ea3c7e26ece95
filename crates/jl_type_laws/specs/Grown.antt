-- What reading a part of a written type adds to what is known.
use Rattle.std.specs.Prelude.{ℕ, ◌≡◌, ◌≤◌, true, List, [], ◌∷◌, length, None}
use Rattle.jl_written.specs.declared.reading.Reading.{Reading}
use Rattle.jl_written.specs.declared.reading.Swap.{Swap}

-- each swap is one of so many variables
abbrev pub SwapsFit : ℕ → List Swap → Type 0
SwapsFit n [] = Unit {0}
SwapsFit n (s ∷ ss) = (s.stop ≤ n) × SwapsFit n ss

-- Variables only come, swaps are of those that came, a fault stays, and without a fault each name means something and is
-- bound once: s is known behind what r is known before.
pub record Grows (r s : Reading) : Type 0 where
  pub longer : length r.vars ≤ length s.vars
  pub fits : SwapsFit (length r.vars) r.swaps → SwapsFit (length s.vars) s.swaps
  pub faultless : s.fault ≡ None → r.fault ≡ None
  pub named : s.fault ≡ None → s.unknown ≡ r.unknown
  pub told : s.fault ≡ None → s.unclear ≡ r.unclear
  pub unclear : r.unclear ≡ true → s.unclear ≡ true
  pub misplaced : r.misplaced ≡ true → s.misplaced ≡ true
