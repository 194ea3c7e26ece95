-- What the text of a type means, where the declared types ds stand before it (Julia manual, Types: Parametric Types, UnionAll
-- Types). A type, an argument and a variable are read from left to right, the variables of a `where` before the type in front
-- of it, which names them: each gives what it means, and what is known behind it. A variable has the number of those that were
-- read before it; `TextOrder` gives it the one that it has in the text. A bound sees only the variables that are declared before it.
use Rattle.std.specs.Prelude.{ℕ, Bool, true, false, not, ◌||◌, ◌&&◌, if◌then◌else◌, nat_lt, List, [], ◌∷◌, ◌++◌, length, drop, Option, Some, None, slice_get}
use Rattle.jl_model.specs.declared.ty.Ty.{Ty, out-Ty}
use Rattle.jl_model.specs.declared.ty.Ty.TheOpen.{Ty-F}
use Rattle.jl_model.specs.declared.ty.Ty.TheOpen as L
use Rattle.jl_model.specs.declared.ty.Ty.TheVariants as W
use Rattle.jl_model.specs.declared.ty.Ty.TheViews as V
use Rattle.jl_model.specs.declared.ty.Bound.{Bound}
use Rattle.jl_model.specs.declared.ty.Decl.{Decl}
use Rattle.jl_model.specs.Rows.{free}
use Rattle.jl_model.specs.Valid.{params_of}
use Rattle.jl_program.specs.Names.{is_among, builtin_names}
use Rattle.jl_typeread.specs.declared.tree.TypeText.{TypeText}
use Rattle.jl_typeread.specs.declared.tree.ArgText.{ArgText}
use Rattle.jl_typeread.specs.declared.tree.VarText.{VarText}
use Rattle.jl_typeread.specs.declared.tree.ArgText.TheOpen as F
use Rattle.jl_typeread.specs.declared.tree.ArgText.TheOpen.{TypeText-F, ArgText-F, VarText-F}
use Rattle.jl_typeread.specs.declared.tree.ArgText.TheFolds.{fold-TypeText, fold-ArgText, fold-VarText}
use Rattle.jl_written.specs.declared.fault.StaticKind.{StaticKind}
use Rattle.jl_written.specs.declared.fault.StaticKind.TheVariants as kind
use Rattle.jl_written.specs.declared.reading.Named.{Named}
use Rattle.jl_written.specs.declared.reading.Named.TheVariants as N
use Rattle.jl_written.specs.declared.reading.Place.{Place}
use Rattle.jl_written.specs.declared.reading.Reading.{Reading}
use Rattle.jl_written.specs.declared.reading.Sight.{Sight}
use Rattle.jl_written.specs.declared.reading.Sight.TheVariants.{All, From}
use Rattle.jl_written.specs.declared.reading.TypeVar.{TypeVar}
use Rattle.jl_written.specs.Answered.{first_of}
use Rattle.jl_written.specs.Meaning.{var_of, meaning_of}

-- ---- what is known, and one step of it

-- a type, and what is known behind it
pub record Typed : Type 0 where
  pub ty : Ty
  pub after : Reading

-- types, and what is known behind them
pub record Types : Type 0 where
  pub tys : List Ty
  pub after : Reading

-- the type variables of a list, and what is known behind the text that brings them
pub record Scoped : Type 0 where
  pub vars : List TypeVar
  pub after : Reading

abbrev pub typed : Ty → Reading → Typed
typed t r = record { ty = t; after = r }

abbrev pub types : List Ty → Reading → Types
types ts r = record { tys = ts; after = r }

abbrev pub scoped : List TypeVar → Reading → Scoped
scoped vs r = record { vars = vs; after = r }

-- types behind others
abbrev pub prepend_types : List Ty → Types → Types
prepend_types us ts = record { tys = us ++ ts.tys; after = ts.after }

-- nothing is known yet
abbrev pub no_reading : Reading
no_reading = record { vars = []; places = []; swaps = []; fault = None; unknown = false; unclear = false; misplaced = false }

-- a fault stands at this place
abbrev pub note : ℕ → StaticKind → Reading → Reading
note at k r = record r { fault = first_of r.fault (record { at = at; kind = k }) }

-- a name that means no type: the text is no type, and `Any` stands for it
abbrev pub note_unknown : ℕ → Reading → Typed
note_unknown at r = record { ty = W.Any; after = record (note at kind.UnknownType r) { unknown = true; unclear = true } }

-- a variable of the signature that no body may use
abbrev pub note_use : ℕ → Bool → Reading → Reading
note_use at usable r = if usable then r else note at kind.StaticParameterUse r

-- a variable is brought at a place that is `inside` an argument of a nominal type, or not
abbrev pub note_brought : Bool → Reading → Reading
note_brought inside r = record r { misplaced = r.misplaced || inside }

-- a variable without a name, with these bounds
abbrev pub fresh_variable : Bound → Bool → Reading → Typed
fresh_variable b inside r = record { ty = W.Var (length r.vars); after = record (note_brought inside r) { vars = r.vars ++ b ∷ [] } }

-- the arguments that are missing: fresh variables with the declared bounds
abbrev pub missing_arguments : List Bound → Bool → Reading → Types
missing_arguments [] inside r = record { tys = []; after = r }
missing_arguments (b ∷ bs) inside r =
    let t = fresh_variable b inside r in
    let ts = missing_arguments bs inside t.after in
    record { tys = t.ty ∷ ts.tys; after = ts.after }

-- an argument that is a variable, where this upper bound is declared for it
abbrev pub note_place_of : Ty → Ty-F Ty → Reading → Reading
note_place_of high (L.Var v) r = record r { places = r.places ++ record { var = v; high = high } ∷ [] }
note_place_of high _ r = r

abbrev pub note_place : List Bound → Ty → Reading → Reading
note_place [] t r = r
note_place (b ∷ bs) t r = note_place_of b.high (out-Ty t) r

-- ---- what is visible

-- The type variables that are visible where a type stands: those that are declared before all that the text of the type brings, which
-- are the variables of the `where` at the end of a signature or the static parameters of a body; others of the text; and whether
-- the type stands in a bound.
pub record Seen : Type 0 where
  pub first : List TypeVar
  pub own : List TypeVar
  pub bound : Bool

abbrev pub seen : List TypeVar → List TypeVar → Bool → Seen
seen first own bound = record { first = first; own = own; bound = bound }

abbrev pub visible : Seen → List TypeVar
visible s = s.first ++ s.own

-- Of the variables of the text that code has at hand, a type sees all, or in a bound those from a place on.
abbrev pub seen_from : List TypeVar → List TypeVar → Sight → Seen
seen_from first vars All = seen first vars false
seen_from first vars (From n) = seen first (drop n vars) true

-- the place from which on they are seen
abbrev pub start_of : Sight → ℕ
start_of All = 0
start_of (From n) = n

abbrev pub is_from : ℕ → Option ℕ → Bool
is_from n None = false
is_from n (Some p) = not (nat_lt p n)

-- more variables of the text
abbrev pub with_own : List TypeVar → Seen → Seen
with_own vs s = record s { own = s.own ++ vs }

-- What a bound sees. The variables of a `where` come after the type in front of it, so a bound in that type sees none of them.
abbrev pub in_bound : Seen → Seen
in_bound s = record { first = s.first; own = if s.bound then s.own else []; bound = true }

-- ---- the parts of a text by what they mean

-- A type or an argument means something where these variables are visible, at a place inside an argument of a nominal type
-- or a bound, or not. What stands in an argument's braces may be inside where the argument itself is not.
abbrev pub TypeReads : Type 0
TypeReads = Seen → Bool → Reading → Typed

abbrev pub ArgReads : Type 0
ArgReads = Seen → Bool → Bool → Reading → Typed

-- a variable: its name with its place, and its bounds
pub record Bounded : Type 0 where
  pub bound : Bound
  pub after : Reading

abbrev pub bounded : Bound → Reading → Bounded
bounded b r = record { bound = b; after = r }

pub record VarReads : Type 0 where
  pub at : ℕ
  pub name : List ℕ
  pub bounds : Seen → Reading → Bounded

-- the arguments of a nominal type, with their declared bounds: all in an invariant place
abbrev pub read_arguments : List Bound → List ArgReads → Seen → Bool → Reading → Types
read_arguments bs [] s inside r = missing_arguments bs inside r
read_arguments bs (x ∷ xs) s inside r =
    let t = x s inside true r in
    let ts = read_arguments (drop 1 bs) xs s inside (note_place bs t.ty t.after) in
    record { tys = t.ty ∷ ts.tys; after = ts.after }

-- the members of a union, or the parts of a tuple
abbrev pub read_members : List ArgReads → Seen → Bool → Reading → Types
read_members [] s inside r = record { tys = []; after = r }
read_members (x ∷ xs) s inside r =
    let t = x s inside inside r in
    let ts = read_members xs s inside t.after in
    record { tys = t.ty ∷ ts.tys; after = ts.after }

abbrev pub union_of : Types → Typed
union_of ts = record { ty = V.Union ts.tys; after = ts.after }

abbrev pub tuple_of : Types → Typed
tuple_of ts = record { ty = V.Tuple ts.tys; after = ts.after }

abbrev pub nominal_of : ℕ → Types → Typed
nominal_of k ts = record { ty = V.Nominal k ts.tys; after = ts.after }

-- ---- variables

-- a name is bound where it is visible already
abbrev pub rebound : ℕ → Option TypeVar → Reading → Reading
rebound at None r = r
rebound at (Some _) r = record (note at kind.Rebound r) { unclear = true }

-- the next variable takes a name, behind others of its list
abbrev pub bind_name : ℕ → List ℕ → Bound → List TypeVar → Reading → Option TypeVar → Scoped
bind_name at name b own r o = record {
  vars = own ++ record { name = name; number = length r.vars; usable = true } ∷ [];
  after = record (rebound at o r) { vars = r.vars ++ b ∷ [] };
}

-- a built-in name is bound
abbrev pub note_builtin : ℕ → List ℕ → Reading → Reading
note_builtin at name r = if is_among name builtin_names then note at kind.NameClash r else r

-- a variable of a list, behind others of the list: its bounds see these, and it hides a visible one of its name
abbrev pub bind : VarReads → Seen → List TypeVar → Reading → Scoped
bind v s own r =
    let b = v.bounds (with_own own (in_bound s)) r in
    bind_name v.at v.name b.bound own (note_builtin v.at v.name b.after) (var_of (visible (with_own own s)) v.name)

-- the variables of a list, each visible in what follows it
abbrev pub bind_all : List VarReads → Seen → List TypeVar → Reading → Scoped
bind_all [] s own r = record { vars = own; after = r }
bind_all (v ∷ vs) s own r = let d = bind v s own r in bind_all vs s d.vars d.after

-- a `where` brings variables
abbrev pub bind_where : List VarReads → Bool → Reading → Reading
bind_where [] inside r = r
bind_where (v ∷ vs) inside r = note_brought inside r

-- In the text, the variables that were read from `start` to `middle` come after those that were read from `middle` until now.
abbrev pub swap : ℕ → ℕ → Reading → Reading
swap start middle r =
    if nat_lt start middle && nat_lt middle (length r.vars) then record r { swaps = r.swaps ++ record { start = start; middle = middle; stop = length r.vars } ∷ [] } else r

-- no place of a declared bound is known
abbrev pub without_places : Reading → Reading
without_places r = record r { places = [] }

-- places of declared bounds behind those that are known
abbrev pub places_behind : List Place → Reading → Reading
places_behind ps r = record r { places = r.places ++ ps }

-- A type with the variables of its `where`, which end with it. These come after those of the type, and so do the places in their
-- bounds.
abbrev pub after_where : TypeReads → Seen → Bool → ℕ → List Place → Scoped → Typed
after_where t s inside start ps d =
    let u = t (with_own d.vars s) inside (record d.after { places = ps }) in
    record { ty = u.ty; after = swap start (length d.after.vars) (places_behind d.after.places u.after) }

abbrev pub within : TypeReads → List VarReads → Seen → Bool → Reading → Typed
within t vs s inside r = after_where t s inside (length r.vars) r.places (bind_all vs s [] (without_places (bind_where vs inside r)))

-- ---- each rule

module _ (ds : List Decl) where
  -- a name without braces
  abbrev pub read_plain : ℕ → Named → Bool → Reading → Typed
  read_plain at (N.Variable v usable) inside r = record { ty = W.Var v; after = note_use at usable r }
  read_plain at N.Any inside r = record { ty = W.Any; after = r }
  read_plain at N.Union inside r = note_unknown at r
  read_plain at N.Tuple inside r = note_unknown at r
  read_plain at (N.Nominal k) inside r = nominal_of k (missing_arguments (params_of (slice_get ds k)) inside r)
  read_plain at N.Unknown inside r = note_unknown at r

  -- a name with braces
  abbrev pub read_applied : ℕ → Named → List ArgReads → Seen → Bool → Reading → Typed
  read_applied at (N.Variable v usable) xs s inside r = note_unknown at r
  read_applied at N.Any xs s inside r = note_unknown at r
  read_applied at N.Union xs s inside r = union_of (read_members xs s inside r)
  read_applied at N.Tuple xs s inside r = tuple_of (read_members xs s inside r)
  read_applied at (N.Nominal k) xs s inside r = nominal_of k (read_arguments (params_of (slice_get ds k)) xs s inside r)
  read_applied at N.Unknown xs s inside r = note_unknown at r

  abbrev pub type_step : TypeText-F ArgReads TypeReads VarReads → TypeReads
  type_step (F.Name at name) s inside r = read_plain at (meaning_of ds (visible s) name) inside r
  type_step (F.Applied at name xs) s inside r = read_applied at (meaning_of ds (visible s) name) xs s inside r
  type_step (F.Paren at t vs) s inside r = within t vs s inside r

  -- `<:B` and `>:B` are fresh variables with that bound
  abbrev pub arg_step : ArgText-F ArgReads TypeReads VarReads → ArgReads
  arg_step (F.Exact t) s outer inner r = t s inner r
  arg_step (F.ArgText::Below at t) s outer inner r = let b = t (in_bound s) true r in fresh_variable (record { low = V.Union []; high = b.ty }) outer b.after
  arg_step (F.ArgText::Above at t) s outer inner r = let b = t (in_bound s) true r in fresh_variable (record { low = b.ty; high = W.Any }) outer b.after

  abbrev pub var_step : VarText-F ArgReads TypeReads VarReads → VarReads
  var_step (F.Free at name) = record { at = at; name = name; bounds = λ s r. record { bound = free; after = r } }
  var_step (F.VarText::Below at name t) = record {
    at = at;
    name = name;
    bounds = λ s r. let b = t s true r in record { bound = record { low = V.Union []; high = b.ty }; after = b.after };
  }
  var_step (F.VarText::Above at name t) = record {
    at = at;
    name = name;
    bounds = λ s r. let b = t s true r in record { bound = record { low = b.ty; high = W.Any }; after = b.after };
  }
  var_step (F.Between l at name h) = record {
    at = at;
    name = name;
    bounds = λ s r.
        let b = l s true r in
        let c = h s true b.after in
        record { bound = record { low = b.ty; high = c.ty }; after = c.after };
  }

  -- what a type means
  abbrev pub type_reads : TypeText → TypeReads
  type_reads = fold-TypeText ArgReads TypeReads VarReads arg_step type_step var_step

  -- what an argument means
  abbrev pub arg_reads : ArgText → ArgReads
  arg_reads = fold-ArgText ArgReads TypeReads VarReads arg_step type_step var_step

  -- what a variable means
  abbrev pub var_reads : VarText → VarReads
  var_reads = fold-VarText ArgReads TypeReads VarReads arg_step type_step var_step
