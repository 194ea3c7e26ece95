-- What an operation answers: the fault of the first row of refusals that has one, and else its value (Julia manual, Control
-- Flow: Exception Handling). An operation is written as its rows, in their order, and then what it gives.
use Rattle.std.specs.Prelude.{◌≡◌, ◌⊎◌, ◌↔◌, Bool, IsTrue}
use Rattle.jl_program.specs.declared.fault.Fault.{Fault}
use Rattle.jl_program.specs.declared.value.Value.{Value}
use Rattle.jl_program.specs.declared.value.Value.TheVariants as V
use Rattle.jl_calculus.specs.declared.history.Outcome.{Outcome}
use Rattle.jl_calculus.specs.declared.history.Outcome.TheVariants as O

-- a row of refusals: which faults it has
abbrev pub Refusal : Type 1
Refusal = Fault → Type 0

-- which outcomes an operation has
abbrev pub Answer : Type 1
Answer = Outcome → Type 0

-- the row that has this fault, where this holds
abbrev pub fault_where : Fault → Type 0 → Refusal
fault_where e A f = (f ≡ e) × A

-- a fault of the row where it has one, and else what follows
abbrev pub refuse : Refusal → Answer → Answer
refuse row rest o = ((e : Fault) × row e × (o ≡ O.Error e)) ⊎ (((e : Fault) → row e → ⊥) × rest o)

-- this value
abbrev pub give : Value → Answer
give v o = o ≡ O.Value v

-- the truth value of a question: true exactly where this holds
abbrev pub tell : Type 0 → Answer
tell A o = (b : Bool) × (IsTrue b ↔ A) × (o ≡ O.Value (V.Bool b))

-- there is at most one answer
abbrev pub IsSingle : Answer → Type 0
IsSingle A = (o p : Outcome) → A o → A p → o ≡ p
