-- What the stacks of a task stand for: the slots and the static parameters of the body that runs, the values and the text that are open,
-- and the frames that wait.
use Rattle.std.specs.Prelude.{◌≡◌, ℕ, List, [], ◌∷◌, ◌++◌, Bool}
use Rattle.jl_model.specs.declared.ty.Ty.{Ty}
use Rattle.jl_program.specs.declared.tree.Expr.{Expr}
use Rattle.jl_program.specs.declared.tree.Piece.{Piece}
use Rattle.jl_program.specs.declared.value.Value.{Value}
use Rattle.jl_program.specs.declared.value.Value.TheVariants as V
use Rattle.jl_calculus.specs.Run.{bound_at}
use Rattle.jl_task.specs.declared.point.Frame.{Frame}
use Rattle.jl_task.specs.declared.point.Frame.TheVariants as Fr

pub record Held : Type 0 where
  pub env : List Value
  pub bindings : List Ty
  -- the values so far of an expression whose parts are evaluated, or the one value that is given
  pub open_values : List Value
  -- the text so far of a `print`
  pub open_text : List ℕ
  pub stack : List Frame

abbrev pub nothing_held : Held
nothing_held = record { env = []; bindings = []; open_values = []; open_text = []; stack = [] }

abbrev pub with_open : Held → List Value → Held
with_open h vs = record { env = h.env; bindings = h.bindings; open_values = vs; open_text = h.open_text; stack = h.stack }

abbrev pub with_text : Held → List ℕ → Held
with_text h text = record { env = h.env; bindings = h.bindings; open_values = h.open_values; open_text = text; stack = h.stack }

-- slots and static parameters
abbrev pub with_scope : Held → List Value → List Ty → Held
with_scope h env bindings = record { env = env; bindings = bindings; open_values = h.open_values; open_text = h.open_text; stack = h.stack }

-- a value is open above those that are
abbrev pub opens : Held → Value → Held
opens h v = with_open h (h.open_values ++ v ∷ [])

-- a frame waits that keeps nothing of what is open
abbrev pub waits : Held → Frame → Held
waits h f = record { env = h.env; bindings = h.bindings; open_values = h.open_values; open_text = h.open_text; stack = f ∷ h.stack }

-- an expression waits for a part, and keeps the values that are open
abbrev pub waits_args : Held → Expr → List Expr → Held
waits_args h e xs = with_open (waits h (Fr.Args e h.open_values xs)) []

-- a `print` waits for a value, and keeps the text that is open
abbrev pub waits_text : Held → List Piece → Bool → Held
waits_text h xs line = with_text (waits h (Fr.Showing h.open_text xs line)) []

-- an evaluated block is begun, which sees no slots and no static parameters
abbrev pub evaluates : Held → Held
evaluates h = with_scope (waits h (Fr.Evaluated h.env h.bindings)) [] []

-- the open values become the slots of what runs
abbrev pub starts : Held → List Ty → Held
starts h ts = with_open (with_scope h h.open_values ts) []

-- a body is entered, whose slots are the open values
abbrev pub enters : Held → ℕ → ℕ → List Ty → Held
enters h w k ts = starts (waits h (Fr.Body w k h.env h.bindings)) ts

-- a slot is bound
abbrev pub binds : Held → ℕ → Value → Held
binds h slot v = with_scope h (bound_at slot v h.env) h.bindings

-- the one open value; where none is open, nothing
abbrev pub first_value : List Value → Value
first_value [] = V.Nothing
first_value (v ∷ vs) = v

-- one value is open
abbrev pub IsOne : Held → Type 0
IsOne h = (v : Value) × (h.open_values ≡ v ∷ [])
