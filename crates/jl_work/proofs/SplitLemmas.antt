-- A line that parts a text begins inside it.
use Rattle.std.proofs.Common.{◌≡◌, ◌≤◌, ◌+◌, ◌&&◌, ℕ, Bool, true, false, cond, nat_eq, List, [], ◌∷◌, length, Option, Some, arith}
use Rattle.jl_work.specs.Split.{begins_one, separator_from, separator_among}

some_is : (m n : ℕ) → Some m ≡ Some n → m ≡ n
some_is m n e = cc

within_so : (there : Bool) (n : ℕ) (b : ℕ) (bs : List ℕ) (place : ℕ) (rest : Option ℕ) → (rest ≡ Some place → place ≤ n + 1 + length bs) → cond there (Some n) rest ≡ Some place → place ≤ n + length (b ∷ bs)
within_so true n b bs place rest h e = omega (some_is n place e, arith)
within_so false n b bs place rest h e = omega (h e, arith)

module _ (lines : List (List ℕ)) where
  from_within : (bytes : List ℕ) (n : ℕ) (fresh : Bool) (place : ℕ) → separator_from lines n fresh bytes ≡ Some place → place ≤ n + length bytes
  from_within [] n fresh place e = cc
  from_within (b ∷ bs) n fresh place e =
      within_so (fresh && begins_one lines (b ∷ bs)) n b bs place (separator_from lines (n + 1) (nat_eq b 10) bs) (from_within bs (n + 1) (nat_eq b 10) place) e

  pub place_within : (bytes : List ℕ) (place : ℕ) → separator_among lines bytes ≡ Some place → place ≤ length bytes
  place_within bytes place e = omega (from_within bytes 0 true place e, arith)
