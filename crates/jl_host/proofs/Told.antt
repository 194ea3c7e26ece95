-- The reply that an operation means tells its outcome.
use Rattle.std.proofs.Common.{◌≡◌, ◌∙◌, ap, refl, ℕ, ℤ, pos, Bool, true, false, cond, Option, None, Some}
use Rattle.std.specs.Ordering.{int_eq}
use Rattle.jl_program.specs.declared.prelude.Operation.{Operation}
use Rattle.jl_program.specs.declared.prelude.Operation.TheVariants as P
use Rattle.jl_program.specs.Prelude.{operation_of}
use Rattle.jl_calculus.specs.declared.history.Outcome.{Outcome}
use Rattle.jl_calculus.specs.Host.{overflows, quotient, remainder, meaning, meaning_if, host_meaning}
use Rattle.jl_host.specs.declared.reply.OpReply.{OpReply}
use Rattle.jl_host.specs.Replies.{outcome_of, reply_of, Means}

abbrev IsTold : Outcome → Type 0
IsTold o = outcome_of (reply_of o) ≡ o

told_cond : (b : Bool) (x y : Outcome) → IsTold x → IsTold y → IsTold (cond b x y)
told_cond true x y p q = p
told_cond false x y p q = q

told_quotient : (a b : ℤ) → IsTold (quotient a b)
told_quotient a b = told_cond (int_eq b (pos 0)) _ _ refl (told_cond (overflows a b) _ _ refl refl)

told_remainder : (a b : ℤ) → IsTold (remainder a b)
told_remainder a b = told_cond (int_eq b (pos 0)) _ _ refl refl

told_meaning : (o : Operation) (a b : ℤ) → IsTold (meaning o a b)
told_meaning P.Add a b = refl
told_meaning P.Subtract a b = refl
told_meaning P.Multiply a b = refl
told_meaning P.Divide a b = told_quotient a b
told_meaning P.Remainder a b = told_remainder a b
told_meaning P.Negate a b = refl
told_meaning P.Equal a b = refl
told_meaning P.NotEqual a b = refl
told_meaning P.Less a b = refl
told_meaning P.LessEqual a b = refl
told_meaning P.Greater a b = refl
told_meaning P.GreaterEqual a b = refl
told_meaning P.Not a b = refl
told_meaning P.EqualTruths a b = refl

told_if : (o : Option Operation) (a b : ℤ) → IsTold (meaning_if o a b)
told_if None a b = refl
told_if (Some o) a b = told_meaning o a b

-- the reply of the operation that stands at a code, to these numbers
pub told_at : (code at : ℕ) (a b a' b' : ℤ) (reply : OpReply) → at ≡ code → a' ≡ a → b' ≡ b → Means at a' b' reply → outcome_of reply ≡ host_meaning code a b
told_at code at a b a' b' reply is first second means = ap outcome_of means ∙ told_if (operation_of at) a' b' ∙ (λ i. host_meaning (is i) (first i) (second i))
