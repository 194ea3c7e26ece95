-- Numbers of at most ten digits are small.
use Rattle.std.proofs.Common.{◌≡◌, refl, ℕ, zero, suc, ◌+◌, ◌-◌, ◌*◌, ◌<◌, ◌≤◌, arith, Bool, true, false, ◌&&◌, nat_le, List, length}
use Rattle.std.specs.List.{list_all}
use Rattle.jl_command.specs.Rule.{is_digit, is_value}

-- one more than the greatest number of so many digits
abbrev pub limit : ℕ → ℕ
limit zero = 1
limit (suc n) = limit n * 10

grows : (i j : ℕ) → limit i ≤ limit (j + i)
grows i zero = let e : 0 + i ≡ i = omega arith in rw e (omega arith)
grows i (suc j) = let h = grows i j in let e : suc j + i ≡ suc (j + i) = omega arith in rw e (omega (arith, h))

pub small : (i : ℕ) → i ≤ 10 → limit i ≤ 10000000000
small i l = let h = grows i (10 - i) in let e : (10 - i) + i ≡ 10 = omega arith in rw e at h

pub one_more : (i n d : ℕ) → n < limit i → d ≤ 9 → n * 10 + d < limit (i + 1)
one_more i n d l m = let e : i + 1 ≡ suc i = omega arith in rw e (omega (arith, l, m))

first : (a b : Bool) → a && b ≡ true → a ≡ true
first true b h = refl
first false b h = h

second : (a b : Bool) → a && b ≡ true → b ≡ true
second true b h = h
second false b h = (let bad : false ≡ true = h in cc)

-- a value has at most ten digits
pub few : (v : List ℕ) → is_value v ≡ true → length v ≤ 10
few v h = let l : nat_le (length v) 10 ≡ true = first (nat_le (length v) 10) (list_all is_digit v) (second (nat_le 1 (length v)) _ h) in grind (arith, l)

-- before the last of so many digits, one more digit makes no large number
pub room : (i n : ℕ) → i < 10 → n < limit i → n * 10 + 9 < 10000000000
room i n l m = let h = small (i + 1) (omega (arith, l)) in let k = one_more i n 9 m (omega arith) in omega (arith, h, k)
