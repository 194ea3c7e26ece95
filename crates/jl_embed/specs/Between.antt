-- Which answers the method that is shipped may give.
use Rattle.std.specs.Prelude.{ℕ, ℤ, Bool, ◌&&◌, ◌||◌, nat_eq, int_le}

-- a number from the lesser to the greater of two
abbrev pub is_between : ℤ → ℤ → ℤ → Bool
is_between a b c = (int_le a c && int_le c b) || (int_le b c && int_le c a)

-- method 0 answers such a number, and no other method any
abbrev pub between : ℕ → ℤ → ℤ → ℤ → Bool
between n a b c = nat_eq n 0 && is_between a b c
