-- Whether an expression was a leaf, whose value is then open.
use Rattle.std.specs.Prelude.{◌≡◌, Bool, true, false, Option, None, Some}
use Rattle.jl_program.specs.declared.value.Value.{Value}
use Rattle.jl_program.specs.declared.value.Value.TheVariants as V
use Rattle.jl_frames.specs.Held.{Held, opens}

abbrev pub Leafed : Bool → Option Value → Held → Held → Type 0
Leafed true (Some v) old new = new ≡ opens old v
Leafed false None old new = new ≡ old
Leafed true None old new = ⊥
Leafed false (Some v) old new = ⊥

-- the truth value that a value is
abbrev pub truth_of : Value → Option Bool
truth_of (V.Bool b) = Some b
truth_of (V.Int n) = None
truth_of V.Nothing = None
truth_of (V.Task n) = None
truth_of (V.Tuple c) = None
truth_of (V.Struct c) = None
