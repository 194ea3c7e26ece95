-- The laws that each question of the rules has one answer. Each is the contract of a function of the module `answer_laws`.
--
-- "There is one" is said so: it can't be that there is none. The logic here decides nothing by itself, and whether a
-- signature applies, or is below another, is decided by the calls that answer it, which may run out of memory.
use Rattle.std.specs.Prelude.{ℕ, ◌≡◌, ◌≤◌, ◌⊎◌, ◌↔◌, Bool, IsTrue, List, length}
use Rattle.std.specs.List.{Contains, list_all}
use Rattle.jl_model.specs.declared.ty.Key.{Key}
use Rattle.jl_model.specs.declared.ty.Ty.{Ty}
use Rattle.jl_model.specs.declared.ty.Decl.{Decl}
use Rattle.jl_model.specs.declared.ty.Written.{Written}
use Rattle.jl_model.specs.Ancestors.{table_of}
use Rattle.jl_model.specs.Bindings.{bindings}
use Rattle.jl_model.specs.Choice.{Method}
use Rattle.jl_model.specs.Refusals.{Declared}
use Rattle.jl_model.specs.SigRefusals.{VariablePlace, BoundBroken}
use Rattle.jl_model.specs.Signature.{Both, Applicable, SigBelow}
use Rattle.jl_model.specs.Subtype.{Table, opaque, Below}
use Rattle.jl_model.specs.Valid.{is_closed}
use Rattle.jl_program.specs.declared.choice.Choice.{Choice}
use Rattle.jl_program.specs.declared.choice.Choice.TheVariants as C
use Rattle.jl_program.specs.declared.fault.Fault.{Fault}
use Rattle.jl_program.specs.declared.tree.Program.{Program}
use Rattle.jl_program.specs.declared.value.Value.{Value}
use Rattle.jl_program.specs.BodyTypes.{without_statics}
use Rattle.jl_program.specs.Making.{IsFirstOther}
use Rattle.jl_program.specs.Prelude.{prelude_count}
use Rattle.jl_program.specs.Scope.{types_of}
use Rattle.jl_calculus.specs.declared.history.Event.{Event}
use Rattle.jl_calculus.specs.declared.history.Outcome.{Outcome}
use Rattle.jl_calculus.specs.Operations.{make_tuple, make_struct, make_written, make_inferred, test_type, test_order, test_same}
use Rattle.jl_calculus.specs.Ranges.{Covers, MayBegin, IsRightFill}
use Rattle.jl_calculus.specs.Statics.{with_statics, nominals_of, is_bad_parameter}
use Rattle.jl_calculus.specs.World.{site_of, methods_made, Stands, Selects}

-- it can't be that there is none, and there are no two
pub record HasOne {X : Type 0} (P : X → Type 0) : Type 0 where
  pub some : ((x : X) → P x → ⊥) → ⊥
  pub one : (x y : X) → P x → P y → x ≡ y

-- the choice for a call in a world
abbrev pub ChoiceIsOne : Type 0
ChoiceIsOne = (P : Program) (es : List Event) (f : ℕ) (ts : List Ty) (w : ℕ) → HasOne (Selects P es f ts w)

-- it holds, or it does not
abbrev pub IsDecided : Type 0 → Type 0
IsDecided A = A ⊎ (A → ⊥)

-- which of the methods that changes make stand in a world, which of them apply, and which signature is below which, is decided
pub record AreDecided (P : Program) (es : List Event) (f : ℕ) (ts : List Ty) (w : ℕ) (ms : List Method) : Type 0 where
  pub stands : (m : Method) → Contains ms m → IsDecided (Stands P es f w m)
  pub applies : (m : Method) → Contains ms m → IsDecided (Applicable (types_of P) m.sig ts)
  pub below : (a b : Method) → Contains ms a → Contains ms b → IsDecided (SigBelow (types_of P) a.sig b.sig)

-- where this is decided the choice is there
abbrev pub ChoiceIsThere : Type 0
ChoiceIsThere =
    (P : Program) (es : List Event) (f : ℕ) (ts : List Ty) (w : ℕ) → AreDecided P es f ts w (methods_made P es f w) → (c : Choice) × Selects P es f ts w c

-- a body gets one type for each variable of its signature
abbrev pub BindingsAreThere : Type 0
BindingsAreThere = (n : Table) (s : Written) (ts : List Ty) → length (bindings n s ts) ≡ length s.vars

-- what a tuple is made of these values: a tuple or a fault
abbrev pub TupleIsOne : Type 0
TupleIsOne = (ds : List Decl) (vs : List Value) → HasOne (make_tuple ds vs)

-- the struct of a type, of a written type, and of an inferred one: a struct or a fault
abbrev pub StructIsOne : Type 0
StructIsOne = (ds : List Decl) (t : Ty) (vs : List Value) → HasOne (make_struct ds t vs)

abbrev pub WrittenIsOne : Type 0
WrittenIsOne = (ds : List Decl) → Declared ds → (statics : List Ty) (t : Written) (vs : List Value) → HasOne (make_written ds statics t vs)

abbrev pub InferredIsOne : Type 0
InferredIsOne = (ds : List Decl) (name : ℕ) (vs : List Value) → HasOne (make_inferred ds name vs)

-- The answers that the definitions decide by themselves are there: of two types whether one is below the other, and what a tuple and a
-- struct of a type are made of these values.
abbrev pub BelowIsDecided : Type 0
BelowIsDecided = (ds : List Decl) → Declared ds → (t u : Ty) → IsDecided (Below (table_of ds) opaque t u)

abbrev pub TupleIsThere : Type 0
TupleIsThere = (ds : List Decl) (vs : List Value) → (o : Outcome) × make_tuple ds vs o

abbrev pub StructIsThere : Type 0
StructIsThere = (ds : List Decl) → Declared ds → (t : Ty) (vs : List Value) → (o : Outcome) × make_struct ds t vs o

-- What a row of refusals asks for can be told. A signature in which no variable stands at a wrong place, and which breaks a declared
-- bound, has a nominal type to name.
abbrev pub BrokenIsTold : Type 0
BrokenIsTold =
    (ds : List Decl) → Declared ds → (s : Written) → (VariablePlace s → ⊥) → BoundBroken ds s → ((e : Fault) → is_bad_parameter ds (nominals_of s) e → ⊥) → ⊥

-- So has a type in a body, which no variable stands at a wrong place of, with types without variables put in for its static parameters.
abbrev pub BodyIsTold : Type 0
BodyIsTold =
    (ds : List Decl) → Declared ds → (statics : List Ty) (t : Written) → IsTrue (list_all is_closed statics) → (VariablePlace (without_statics t) → ⊥) → BoundBroken ds (with_statics statics t)
    → ((e : Fault) → is_bad_parameter ds (nominals_of (with_statics statics t)) e → ⊥) → ⊥

-- Of as many types as there are fields not all are below their fields' exactly where there is a first one that is not.
abbrev pub OtherIsTold : Type 0
OtherIsTold =
    (ds : List Decl) (types fields : List Ty) → length types ≡ length fields
    → (Both (Below (table_of ds) opaque) types fields → ⊥) ↔ (((i : ℕ) → IsFirstOther ds types fields i → ⊥) → ⊥)

-- `isa`, `<:`, `===` and `!==`: a truth value, or for a written type a fault
abbrev pub TestIsOne : Type 0
TestIsOne = (ds : List Decl) → Declared ds → (statics : List Ty) (v : Value) (t : Written) → HasOne (test_type ds statics v t)

abbrev pub OrderIsOne : Type 0
OrderIsOne = (ds : List Decl) → Declared ds → (statics : List Ty) (t u : Written) → HasOne (test_order ds statics t u)

abbrev pub IdentityIsOne : Type 0
IdentityIsOne = (negated : Bool) (u v : Value) → HasOne (test_same negated u v)

-- in each world from the prelude's last on, one row of a key covers it: one first world, at which a row may begin
abbrev pub CoverIsOne : Type 0
CoverIsOne =
    (P : Program) (es : List Event) (key : Key) (w : ℕ) → prelude_count ≤ w → HasOne (λ (first : ℕ). MayBegin P es key first × Covers P es key first w)

-- what stands in the place of the site of a row: the site, or that no method is chosen in its first world
abbrev pub HasSiteOrNone : Program → List Event → Key → ℕ → Choice → Type 0
HasSiteOrNone P es key first (C.Method d) = IsRightFill P es key (site_of es d) first
HasSiteOrNone P es key first C.None = (site : ℕ) → IsRightFill P es key site first → ⊥
HasSiteOrNone P es key first (C.Ambiguous a b) = (site : ℕ) → IsRightFill P es key site first → ⊥

-- where a row may begin, there is a right site exactly where the choice in its first world is a method: that method's
abbrev pub SiteIsThere : Type 0
SiteIsThere =
    (P : Program) (es : List Event) (key : Key) (first : ℕ) (c : Choice) → MayBegin P es key first → Selects P es key.function key.types first c → HasSiteOrNone P es key first c
