-- Which answers the method of the shop may give.
use Rattle.std.specs.Prelude.{ℕ, ℤ, pos, Bool, ◌&&◌, nat_eq, int_le}

-- a number from 0 to the most
abbrev pub is_up_to : ℤ → ℤ → Bool
is_up_to most c = int_le (pos 0) c && int_le c most

-- method 0 answers a price of at most 1,000,000 cents, and no other method any
abbrev pub shop_allows : ℕ → ℤ → ℤ → ℤ → Bool
shop_allows n a b c = nat_eq n 0 && is_up_to (pos 1000000) c
