-- Properties that what is read has where its parts have them.
use Rattle.std.specs.Prelude.{ℕ, Bool, ◌≡◌, ◌<◌, true, List, [], ◌∷◌, length, slice_get}
use Rattle.std.specs.List.{list_all}
use Rattle.jl_model.specs.declared.builtin.TheConstants.{INT64}
use Rattle.jl_model.specs.declared.ty.Ty.{Ty}
use Rattle.jl_model.specs.declared.ty.Ty.TheViews as V
use Rattle.jl_model.specs.declared.ty.Ty.TheVariants as W
use Rattle.jl_model.specs.declared.ty.Bound.{Bound}
use Rattle.jl_model.specs.declared.ty.Decl.{Decl}
use Rattle.jl_model.specs.Rows.{vars_in}
use Rattle.jl_model.specs.Valid.{params_of}
use Rattle.jl_written.specs.declared.reading.Place.{Place}
use Rattle.jl_written.specs.declared.reading.Reading.{Reading}
use Rattle.jl_written.specs.declared.reading.TypeVar.{TypeVar}
use Rattle.jl_written.specs.Reads.{Typed, Seen, note_use}
use Rattle.jl_type_laws.specs.Grown.{Grows}

-- a type passes a test
abbrev pub Passes : (Ty → Bool) → Ty → Type 0
Passes p t = p t ≡ true

-- each variable of a type passes a test
abbrev pub vars_pass : (ℕ → Bool) → Ty → Bool
vars_pass q t = list_all q (vars_in t)

-- each type of a list has P
abbrev pub AllHave : (Ty → Type 0) → List Ty → Type 0
AllHave P [] = Unit {0}
AllHave P (t ∷ ts) = P t × AllHave P ts

-- both bounds have P
abbrev pub BoundHas : (Ty → Type 0) → Bound → Type 0
BoundHas P b = P b.low × P b.high

-- the bounds of each variable have P
abbrev pub BoundsHave : (Ty → Type 0) → List Bound → Type 0
BoundsHave P [] = Unit {0}
BoundsHave P (b ∷ bs) = BoundHas P b × BoundsHave P bs

-- the upper bound that is declared for each place has P
abbrev pub PlacesHave : (Ty → Type 0) → List Place → Type 0
PlacesHave P [] = Unit {0}
PlacesHave P (p ∷ ps) = P p.high × PlacesHave P ps

-- the types in what is known so far have P
pub record ReadingHas (P : Ty → Type 0) (r : Reading) : Type 0 where
  pub bounds : BoundsHave P r.vars
  pub places : PlacesHave P r.places

-- a type that was read passes a test, and so do the types that are known behind it
pub record ReadPasses (p : Ty → Bool) (t : Typed) : Type 0 where
  pub ty : Passes p t.ty
  pub after : ReadingHas (Passes p) t.after

-- each visible variable has S, by its number and whether it may stand here
abbrev pub Visible : (ℕ → Bool → Type 0) → List TypeVar → Type 0
Visible S [] = Unit {0}
Visible S (v ∷ vs) = S v.number v.usable × Visible S vs

-- each variable that a type sees has S
abbrev pub SeenHave : (ℕ → Bool → Type 0) → Seen → Type 0
SeenHave S s = Visible S s.first × Visible S s.own

-- the number has N where the variable may stand here
abbrev pub WhereUsable : (ℕ → Type 0) → ℕ → Bool → Type 0
WhereUsable N v usable = usable ≡ true → N v

-- the number of each variable that is known so far has N
abbrev pub NumbersHave : (ℕ → Type 0) → Reading → Type 0
NumbersHave N r = (n : ℕ) → n < length r.vars → N n

-- A property P of types goes by the parts, where N is asked of the numbers of variables and S of the visible ones; and Ok, which
-- is asked of what is known behind a text, holds before it too.
pub record IsCarried (ds : List Decl) (P : Ty → Type 0) (N : ℕ → Type 0) (S : ℕ → Bool → Type 0) (Ok : Reading → Type 0) : Type 0 where
  pub any : P W.Any
  pub union : (ts : List Ty) → AllHave P ts → P (V.Union ts)
  pub tuple : (ts : List Ty) → AllHave P ts → P (V.Tuple ts)
  pub declared : (k : ℕ) (ts : List Ty) → k < length ds → AllHave P ts → P (V.Nominal k ts)
  pub int : (ts : List Ty) → AllHave P ts → P (V.Nominal INT64 ts)
  pub variable : (v : ℕ) → N v → P (W.Var v)
  pub params : (k : ℕ) → BoundsHave P (params_of (slice_get ds k))
  pub back : (r s : Reading) → Grows r s → Ok s → Ok r
  pub visible : (at : ℕ) (r : Reading) (v : ℕ) (usable : Bool) → S v usable → Ok (note_use at usable r) → N v
  pub bound : (v : ℕ) → N v → S v true
