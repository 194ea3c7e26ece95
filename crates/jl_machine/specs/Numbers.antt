-- Operations of the prelude on two numbers, which are answered at once where their method is remembered.
use Rattle.std.specs.Prelude.{◌≡◌, ◌<◌, ◌+◌, ◌⊎◌, ℕ, ℤ, List, [], ◌∷◌, Bool, true, false, None, Some}
use Rattle.jl_program.specs.declared.tree.Expr.{Expr, out-Expr}
use Rattle.jl_program.specs.declared.tree.Expr.TheOpen as F
use Rattle.jl_program.specs.declared.tree.Program.{Program}
use Rattle.jl_program.specs.declared.value.Value.{Value}
use Rattle.jl_program.specs.declared.value.Value.TheVariants as V
use Rattle.jl_program.specs.Scope.{all_types}
use Rattle.jl_calculus.specs.declared.history.Outcome.{Outcome}
use Rattle.jl_calculus.specs.declared.history.Outcome.TheVariants as O
use Rattle.jl_calculus.specs.Operations.{field_of}
use Rattle.jl_calculus.specs.Run.{operates}
use Rattle.jl_frames.specs.Held.{opens}
use Rattle.jl_task.specs.declared.point.Work.{Work}
use Rattle.jl_task.specs.Turns.{Point}
use Rattle.jl_task.specs.Skip.{leaf, skip_args}
use Rattle.jl_task.specs.Knows.{Knows}
use Rattle.jl_task.specs.Fits.{Progress, IsKnowing, Steps}
use Rattle.jl_task.specs.Numbers.{TakesNumbers}
use Rattle.jl_machine.specs.declared.now.LentWork.{LentWork}
use Rattle.jl_machine.specs.declared.task.Task.{Task}
use Rattle.jl_machine.specs.Lent.{now_of}
use Rattle.jl_machine.specs.Steps.{progress_of, Moves}

-- one more call may be made, and the operation that is remembered for a function and two numbers answers this
pub record Replies (k : Knows) (t : Progress) (f w : ℕ) (a b : ℤ) (o : Outcome) : Type 0 where
  pub fuel : t.calls < t.fuel
  pub room : 0 < t.now.room
  pub site : ℕ
  pub takes : TakesNumbers k f w site
  pub answer : o ≡ operates site (V.Int a ∷ V.Int b ∷ [])

-- the same where these values are the numbers
pub record RepliesTo (k : Knows) (t : Progress) (f w : ℕ) (vs : List Value) (o : Outcome) : Type 0 where
  pub first : ℤ
  pub second : ℤ
  pub values : vs ≡ V.Int first ∷ V.Int second ∷ []
  pub replies : Replies k t f w first second o

-- the same of two leaves
pub record RepliesToLeaves (k : Knows) (t : Progress) (f : ℕ) (left right : Expr) (o : Outcome) : Type 0 where
  pub first : ℤ
  pub second : ℤ
  pub left_is : leaf t.now.env (out-Expr left) ≡ Some (V.Int first)
  pub right_is : leaf t.now.env (out-Expr right) ≡ Some (V.Int second)
  pub replies : Replies k t f t.now.world first second o

-- the same of a call of two leaves
pub record RepliesAt (k : Knows) (t : Progress) (e : Expr) (o : Outcome) : Type 0 where
  pub function : ℕ
  pub left : Expr
  pub right : Expr
  pub form : out-Expr e ≡ F.Call function (left ∷ right ∷ [])
  pub leaves : RepliesToLeaves k t function left right o

-- a value is open above those that are
abbrev pub with_value : Task → Value → Task
with_value t v = record t { now = record t.now { frames = opens t.now.frames v } }

-- the answer of a call, which is counted
abbrev pub with_answer : Task → Value → Task
with_answer t v = record t { calls = t.calls + 1; now = record t.now { frames = opens t.now.frames v } }

-- a value that is answered is open
abbrev pub Pushed : Bool → Outcome → Task → Task → Type 0
Pushed true (O.Value v) t t' = t' ≡ with_answer t v
Pushed true (O.Error e) t t' = ⊥
Pushed false o t t' = t' ≡ t

-- so is that of a call of two leaves
abbrev pub Called : Bool → Knows → Expr → Task → Task → Type 0
Called true k e t t' = (v : Value) × RepliesAt k (progress_of t) e (O.Value v) × (t' ≡ with_answer t v)
Called false k e t t' = t' ≡ t

-- or that of a leaf
pub record OfLeaf (e : Expr) (t t' : Task) : Type 0 where
  pub value : Value
  pub is : leaf t.now.frames.env (out-Expr e) ≡ Some value
  pub task : t' ≡ with_value t value

-- the part of a leaf at a field
pub record IsFieldOf (P : Program) (env : List Value) (from : Expr) (name : List ℕ) (v : Value) : Type 0 where
  pub whole : Value
  pub leaf_is : leaf env (out-Expr from) ≡ Some whole
  pub part : field_of (all_types P) name whole ≡ O.Value v

-- such a part is open
abbrev pub Fielded : Bool → Program → Expr → List ℕ → Task → Task → Type 0
Fielded true P from name t t' = (v : Value) × IsFieldOf P t.now.frames.env from name v × (t' ≡ with_value t v)
Fielded false P from name t t' = t' ≡ t

-- the same of an expression for it
pub record OfField (P : Program) (e : Expr) (t t' : Task) : Type 0 where
  pub from : Expr
  pub name : List ℕ
  pub form : out-Expr e ≡ F.Field from name
  pub value : Value
  pub field : IsFieldOf P t.now.frames.env from name value
  pub task : t' ≡ with_value t value

-- the value of an expression is open, where it is the field of a leaf or the answer of a call
abbrev pub Found : Bool → Knows → Expr → Task → Task → Type 0
Found true k e t t' = OfField k.program e t t' ⊎ Called true k e t t'
Found false k e t t' = t' ≡ t

-- the same, or where it is a leaf
abbrev pub Simple : Bool → Knows → Expr → Task → Task → Type 0
Simple true k e t t' = OfLeaf e t t' ⊎ Found true k e t t'
Simple false k e t t' = (leaf t.now.frames.env (out-Expr e) ≡ None) × (t' ≡ t)

-- Steps that asked nobody lead from one point of a task to another, where so many calls were made.
pub record Leads (k : Knows) (w : Work) (t : Progress) (p : Point) (calls : ℕ) : Type 0 where
  pub steps : Steps k w t k p.0 (record t { now = p.1; calls = calls })
  pub knows : IsKnowing k w t → IsKnowing k p.0 (record t { now = p.1; calls = calls })

-- a task is another one, but for what its own turns and calls change
abbrev pub GoesOnFrom : Task → Task → Type 0
GoesOnFrom t u = t ≡ record u { now = t.now; calls = t.calls }

-- wherever steps of a task lead to this point, they lead on to that one
abbrev pub LeadsTo : Knows → Point → Task → Point → Task → Type 0
LeadsTo k p t q t' = (w : Work) (u : Task) → GoesOnFrom t u → Leads k w (progress_of u) p t.calls → Leads k w (progress_of u) q t'.calls

-- wherever steps of a task lead to this point, they lead on to what comes next
abbrev pub LeadsOn : Knows → Point → Task → LentWork → Task → Type 0
LeadsOn k p t work t' = (w : Work) (u : Task) → GoesOnFrom t u → Leads k w (progress_of u) p t.calls → Moves k w u work t'

-- the parts that are left, after some that were taken at once
pub record PartsLeft (k : Knows) (e : Expr) (p : Point) (t0 : Task) (xs : List Expr) (t : Task) : Type 0 where
  pub on : LeadsTo k p t0 (skip_args e t.now.frames.open_values xs (now_of t.now)) t
  pub from : GoesOnFrom t t0
  pub text : t.now.frames.open_text ≡ []
