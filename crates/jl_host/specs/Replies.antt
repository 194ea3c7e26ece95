-- What a stored function has to answer, and for which pairs of numbers (Julia manual, Mathematical Operations and Elementary Functions).
use Rattle.std.specs.Prelude.{◌≡◌, ◌⊎◌, ℕ, ℤ, pos, FitsSigned, slice_get, Option, None, Some}
use Rattle.std.specs.Int.{w64}
use Rattle.jl_program.specs.declared.fault.Fault.TheVariants.{DivideError}
use Rattle.jl_program.specs.declared.prelude.Shape.{Shape}
use Rattle.jl_program.specs.declared.prelude.Shape.TheVariants.{Integer, Integers, Truth, Truths}
use Rattle.jl_program.specs.declared.value.Value.TheVariants as V
use Rattle.jl_program.specs.Prelude.{OperationRow, operations}
use Rattle.jl_calculus.specs.declared.history.Outcome.{Outcome}
use Rattle.jl_calculus.specs.declared.history.Outcome.TheVariants as O
use Rattle.jl_calculus.specs.Host.{host_meaning}
use Rattle.jl_host.specs.declared.reply.OpReply.{OpReply}
use Rattle.jl_host.specs.declared.reply.OpReply.TheVariants as R

-- a truth value as a number
abbrev pub IsTruth : ℤ → Type 0
IsTruth a = (a ≡ pos 0) ⊎ (a ≡ pos 1)

-- the pairs of an operation with these parameters: a parameter that is not there is 0
abbrev pub AreShown : Shape → ℤ → ℤ → Type 0
AreShown Integer a b = FitsSigned w64 a × (b ≡ pos 0)
AreShown Integers a b = FitsSigned w64 a × FitsSigned w64 b
AreShown Truth a b = IsTruth a × (b ≡ pos 0)
AreShown Truths a b = IsTruth a × IsTruth b

abbrev pub shown_by : Option OperationRow → ℤ → ℤ → Type 0
shown_by None a b = ⊥
shown_by (Some (operation, function, shape)) a b = AreShown shape a b

-- the pairs that the operation of a code can be shown
abbrev pub IsShown : ℕ → ℤ → ℤ → Type 0
IsShown code a b = shown_by (slice_get operations code) a b

-- a reply as the outcome of a call
abbrev pub outcome_of : OpReply → Outcome
outcome_of (R.Int n) = O.Value (V.Int n)
outcome_of (R.Bool b) = O.Value (V.Bool b)
outcome_of R.DivideError = O.Error DivideError

-- an outcome as a reply; an operation has no other outcomes than these
abbrev pub reply_of : Outcome → OpReply
reply_of (O.Value (V.Int n)) = R.Int n
reply_of (O.Value (V.Bool b)) = R.Bool b
reply_of _ = R.DivideError

-- the reply is what the operation means
abbrev pub Means : ℕ → ℤ → ℤ → OpReply → Type 0
Means code a b reply = reply ≡ reply_of (host_meaning code a b)
