-- The values that an operation of the prelude takes.
use Rattle.std.specs.Prelude.{◌≡◌, ◌<◌, ℕ, ℤ, Bool, List, [], ◌∷◌, Option, None, Some, slice_get}
use Rattle.jl_program.specs.declared.prelude.TheConstants.{PRELUDE_SITES}
use Rattle.jl_program.specs.declared.prelude.Shape.{Shape}
use Rattle.jl_program.specs.declared.prelude.Shape.TheVariants.{Integer, Integers, Truth, Truths}
use Rattle.jl_program.specs.declared.value.Value.{Value}
use Rattle.jl_program.specs.declared.value.Value.TheVariants as V
use Rattle.jl_program.specs.Prelude.{OperationRow, operations}

-- the values that are of these parameters
abbrev pub AreOfShape : Shape → List Value → Type 0
AreOfShape Integer vs = (n : ℤ) × (vs ≡ V.Int n ∷ [])
AreOfShape Integers vs = (n m : ℤ) × (vs ≡ V.Int n ∷ V.Int m ∷ [])
AreOfShape Truth vs = (b : Bool) × (vs ≡ V.Bool b ∷ [])
AreOfShape Truths vs = (a b : Bool) × (vs ≡ V.Bool a ∷ V.Bool b ∷ [])

abbrev pub taken_by : Option OperationRow → List Value → Type 0
taken_by None vs = ⊥
taken_by (Some (operation, function, shape)) vs = AreOfShape shape vs

-- the values are those that the operation of a site takes
abbrev pub IsTakenBy : ℕ → List Value → Type 0
IsTakenBy site vs = taken_by (slice_get operations site) vs

-- where a site is one of the prelude, the values are those that its operation takes
abbrev pub MayPerform : ℕ → List Value → Type 0
MayPerform site vs = site < PRELUDE_SITES → IsTakenBy site vs
