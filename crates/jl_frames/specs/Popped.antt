-- What is left when the topmost frame is taken off.
use Rattle.std.specs.Prelude.{◌≡◌, ℕ, List, [], ◌∷◌, ◌++◌, Option, None, Some}
use Rattle.jl_model.specs.declared.ty.Ty.{Ty}
use Rattle.jl_program.specs.declared.tree.Expr.{Expr}
use Rattle.jl_program.specs.declared.value.Value.{Value}
use Rattle.jl_task.specs.declared.point.Frame.{Frame}
use Rattle.jl_task.specs.declared.point.Frame.TheVariants as Fr
use Rattle.jl_frames.specs.declared.flat.Flat.{Flat}
use Rattle.jl_frames.specs.declared.flat.Flat.TheVariants as L
use Rattle.jl_frames.specs.Held.{Held}

-- a frame is off, with these slots, static parameters, open values and open text after it
pub record Off (f : Frame) (env : List Value) (bindings : List Ty) (values : List Value) (text : List ℕ) (old new : Held) : Type 0 where
  pub stack : old.stack ≡ f ∷ new.stack
  pub env_is : new.env ≡ env
  pub bindings_are : new.bindings ≡ bindings
  pub values_are : new.open_values ≡ values
  pub text_is : new.open_text ≡ text

-- a frame that keeps nothing is off
abbrev pub Gone : Frame → Held → Held → Type 0
Gone f old new = Off f old.env old.bindings old.open_values old.open_text old new

-- an expression is off, and has its values back
abbrev pub OffArgs : Expr → List Expr → Held → Held → Type 0
OffArgs e xs old new = (done : List Value) × Off (Fr.Args e done xs) old.env old.bindings (done ++ old.open_values) old.open_text old new

-- a body is off, and the slots and the static parameters around it are back
abbrev pub OffBody : ℕ → ℕ → Held → Held → Type 0
OffBody w k old new = Off (Fr.Body w k new.env new.bindings) new.env new.bindings old.open_values old.open_text old new

-- a frame takes what was kept for it: an expression its values, a `print` its text, a block its slots, and an evaluated block and a body the
-- static parameters too
abbrev pub Popped : Option Flat → Held → Held → Type 0
Popped None old new = (old.stack ≡ []) × (new ≡ old)
Popped (Some (L.Args from e xs)) old new = (done : List Value) × Off (Fr.Args e.now done xs.now) old.env old.bindings (done ++ old.open_values) old.open_text old new
Popped (Some (L.Second from e b)) old new = (done : List Value) × Off (Fr.Args e.now done (b.now ∷ [])) old.env old.bindings (done ++ old.open_values) old.open_text old new
Popped (Some (L.Testing e)) old new = Gone (Fr.Testing e.now) old new
Popped (Some (L.AfterStmt x xs)) old new = Gone (Fr.AfterStmt x.now xs.now) old new
Popped (Some (L.Block base kept)) old new = Off (Fr.Block new.env) new.env old.bindings old.open_values old.open_text old new
Popped (Some (L.AfterItem fresh w x xs)) old new = Gone (Fr.AfterItem x.now fresh w xs.now) old new
Popped (Some (L.Evaluated s)) old new = Off (Fr.Evaluated new.env new.bindings) new.env new.bindings old.open_values old.open_text old new
Popped (Some (L.Showing line begin xs)) old new = (text : List ℕ) × Off (Fr.Showing text xs.now line) old.env old.bindings old.open_values (text ++ old.open_text) old new
Popped (Some (L.Body w s k)) old new = Off (Fr.Body w k new.env new.bindings) new.env new.bindings old.open_values old.open_text old new

-- a frame lets a `return` pass: what was kept for it is dropped, except what was kept for a body
abbrev pub Passed : Option Flat → Held → Held → Type 0
Passed None old new = (old.stack ≡ []) × (new ≡ old)
Passed (Some (L.Args from e xs)) old new = (done : List Value) × Gone (Fr.Args e.now done xs.now) old new
Passed (Some (L.Second from e b)) old new = (done : List Value) × Gone (Fr.Args e.now done (b.now ∷ [])) old new
Passed (Some (L.Testing e)) old new = Gone (Fr.Testing e.now) old new
Passed (Some (L.AfterStmt x xs)) old new = Gone (Fr.AfterStmt x.now xs.now) old new
Passed (Some (L.Block base kept)) old new = (env : List Value) × Gone (Fr.Block env) old new
Passed (Some (L.AfterItem fresh w x xs)) old new = Gone (Fr.AfterItem x.now fresh w xs.now) old new
Passed (Some (L.Evaluated s)) old new = (env : List Value) × (bindings : List Ty) × Gone (Fr.Evaluated env bindings) old new
Passed (Some (L.Showing line begin xs)) old new = (text : List ℕ) × Off (Fr.Showing text xs.now line) old.env old.bindings old.open_values [] old new
Passed (Some (L.Body w s k)) old new = Off (Fr.Body w k new.env new.bindings) new.env new.bindings old.open_values old.open_text old new
