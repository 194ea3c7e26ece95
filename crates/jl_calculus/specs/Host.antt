-- What the prelude's operations mean on integers; a truth value counts as 1 or 0.
use Rattle.std.specs.Prelude.{ℕ, ℤ, pos, negsuc, Bool, cond, not, ◌&&◌, int_lt, int_div, int_rem, Option, None, Some}
use Rattle.std.specs.Ordering.{int_eq}
use Rattle.std.specs.Int.{int_wrapping_add, int_wrapping_sub, int_wrapping_mul, int_wrapping_neg, w64}
use Rattle.jl_program.specs.declared.value.Value.TheVariants as V
use Rattle.jl_calculus.specs.declared.history.Outcome.{Outcome}
use Rattle.jl_calculus.specs.declared.history.Outcome.TheVariants as O
use Rattle.jl_program.specs.declared.fault.Fault.TheVariants.{DivideError}
use Rattle.jl_program.specs.declared.prelude.Operation.{Operation}
use Rattle.jl_program.specs.declared.prelude.Operation.TheVariants as P
use Rattle.jl_program.specs.Prelude.{operation_of}

-- a number, or a truth value
abbrev pub number : ℤ → Outcome
number n = O.Value (V.Int n)

abbrev pub truth : Bool → Outcome
truth b = O.Value (V.Bool b)

-- whether the quotient is that of the least number by -1
abbrev pub overflows : ℤ → ℤ → Bool
overflows a b = int_eq a (negsuc 9223372036854775807) && int_eq b (negsuc 0)

-- the quotient towards zero
abbrev pub quotient : ℤ → ℤ → Outcome
quotient a b = cond (int_eq b (pos 0)) (O.Error DivideError) (cond (overflows a b) (O.Error DivideError) (number (int_div a b)))

-- what is left of it, with the sign of the first number
abbrev pub remainder : ℤ → ℤ → Outcome
remainder a b = cond (int_eq b (pos 0)) (O.Error DivideError) (number (int_rem a b))

-- what each operation gives for two numbers
abbrev pub meaning : Operation → ℤ → ℤ → Outcome
meaning P.Add a b = number (int_wrapping_add w64 a b)
meaning P.Subtract a b = number (int_wrapping_sub w64 a b)
meaning P.Multiply a b = number (int_wrapping_mul w64 a b)
meaning P.Divide a b = quotient a b
meaning P.Remainder a b = remainder a b
meaning P.Negate a b = number (int_wrapping_neg w64 a)
meaning P.Equal a b = truth (int_eq a b)
meaning P.NotEqual a b = truth (not (int_eq a b))
meaning P.Less a b = truth (int_lt a b)
meaning P.LessEqual a b = truth (not (int_lt b a))
meaning P.Greater a b = truth (int_lt b a)
meaning P.GreaterEqual a b = truth (not (int_lt a b))
meaning P.Not a b = truth (int_eq a (pos 0))
meaning P.EqualTruths a b = truth (int_eq a b)

abbrev pub meaning_if : Option Operation → ℤ → ℤ → Outcome
meaning_if None a b = O.Error DivideError
meaning_if (Some o) a b = meaning o a b

-- the operation of a site of the prelude, on two numbers
abbrev pub host_meaning : ℕ → ℤ → ℤ → Outcome
host_meaning site a b = meaning_if (operation_of site) a b
