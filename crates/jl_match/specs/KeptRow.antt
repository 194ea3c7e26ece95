-- What the walk over a row asks of it: the row of a signature that nothing refuses, whose bounds and arguments without
-- variables stand in normal form.
use Rattle.std.specs.Prelude.{ℕ, ◌≡◌, ◌<◌, ◌≤◌, ◌⊎◌, Bool, false, IsTrue, List, [], ◌∷◌, length, get_or}
use Rattle.std.specs.List.{flat_map, list_all, Contains}
use Rattle.jl_model.specs.declared.ty.Ty.{Ty}
use Rattle.jl_model.specs.declared.ty.Ty.TheOpen.{Any, Union, Tuple, Nominal, Var}
use Rattle.jl_model.specs.declared.ty.Ty.TheViews.{out-Ty}
use Rattle.jl_model.specs.declared.ty.Ty.TheViews as V
use Rattle.jl_model.specs.declared.ty.Decl.{Decl}
use Rattle.jl_model.specs.declared.ty.Written.{Written}
use Rattle.jl_model.specs.Ancestors.{table_of}
use Rattle.jl_model.specs.Kinds.{unused, diagonal, bound}
use Rattle.jl_model.specs.declared.ty.Bound.{Bound}
use Rattle.jl_model.specs.Rows.{free, width, low, high, kind, root, atom, vars_in, Stands, Occurs}
use Rattle.jl_model.specs.Signature.{Row, top, is_diagonal, Serves, Both}
use Rattle.jl_model.specs.Subtype.{Table, opaque, put, at, Below, Equal, is_concrete}
use Rattle.jl_model.specs.Normal.{IsNormal, AllNormal, IsNormalForm}
use Rattle.jl_types.specs.Form.{Settles}
use Rattle.jl_model.specs.Valid.{is_known}
use Rattle.jl_model.specs.Found.{inner, outer}
use Rattle.jl_search.specs.Occurring.{IsInOrder}
use Rattle.jl_search.specs.Open.{EachVar, AreOpen}
use Rattle.jl_search.specs.Serving.{IsPlain, IsPlace}
use Rattle.jl_sig.specs.Prepared.{HasOwnVariables}

module _ (n : Table) where
  mutual
    -- an argument of a nominal type: a normal form without variables, a variable, or a nominal type over such arguments
    pub data IsArgument : Ty → Type 0 where
      closed : (t : Ty) → vars_in t ≡ [] → IsNormal n t → IsArgument t
      variable : (t : Ty) (v : ℕ) → out-Ty t ≡ Var v → IsArgument t
      applied : (t : Ty) (k : ℕ) (ts : List Ty) → out-Ty t ≡ Nominal k ts → AreArguments ts → IsArgument t

    pub data AreArguments : List Ty → Type 0 where
      arguments_end : AreArguments []
      arguments_more : (t : Ty) (ts : List Ty) → IsArgument t → AreArguments ts → AreArguments (t ∷ ts)

  mutual
    -- a part of a row: no union stands at a covariant place
    pub data IsPart : Ty → Type 0 where
      any : (t : Ty) → out-Ty t ≡ Any → IsPart t
      variable : (t : Ty) (v : ℕ) → out-Ty t ≡ Var v → IsPart t
      tuple : (t : Ty) (ts : List Ty) → out-Ty t ≡ Tuple ts → AreParts ts → IsPart t
      nominal : (t : Ty) (k : ℕ) (ts : List Ty) → out-Ty t ≡ Nominal k ts → AreArguments ts → IsPart t

    pub data AreParts : List Ty → Type 0 where
      parts_end : AreParts []
      parts_more : (t : Ty) (ts : List Ty) → IsPart t → AreParts ts → AreParts (t ∷ ts)

-- the row of these parts and chosen alternatives
abbrev pub row_of : List Ty → List Ty → Row
row_of parts chosen = record { parts = parts; chosen = at chosen }

-- An upper bound that mentions variables, which are bound ones before its own: a nominal type over arguments in normal form. It has
-- one alternative, so its variable has one atom.
pub record IsNamedTop (ds : List Decl) (s : Written) (r : Row) (v : ℕ) : Type 0 where
  pub number : ℕ
  pub args : List Ty
  pub high_is : high s v ≡ V.Nominal number args
  pub top_is : top s r v ≡ high s v
  pub low_is : low s v ≡ V.Union []
  pub arguments : AreArguments (table_of ds) args
  pub known : IsTrue (is_known (length ds) (high s v))
  pub before : (w : ℕ) → Contains (flat_map vars_in args) w → w < v
  pub kinds : (w : ℕ) → Contains (flat_map vars_in args) w → kind s w ≡ bound
  pub atom_is : (w : ℕ) → Contains (flat_map outer r.parts) w → root s w ≡ v → kind s v ≡ bound → w ≡ atom s v 0

-- an upper bound as it is kept, and what a row takes for it: both are without variables, or both are one that mentions variables, or a
-- diagonal variable with such a bound does not stand in the row
pub data IsKeptTop (ds : List Decl) (s : Written) (r : Row) : ℕ → Type 0 where
  top_plain : (v : ℕ) → IsPlain ds (high s v) → IsPlain ds (top s r v) → IsKeptTop ds s r v
  top_named : (v : ℕ) → IsNamedTop ds s r v → IsKeptTop ds s r v
  top_idle : (v : ℕ) → kind s v ≡ diagonal → (Stands s v r.parts → ⊥) → IsPlain ds (top s r v) → IsTrue (is_known (length ds) (high s v)) → IsKeptTop ds s r v

-- The signature has only its own variables. One at an invariant place of the row is bound, and what stands at a covariant
-- place is a diagonal variable or an atom of a bound one. The lower bounds are normal forms without variables.
pub record IsKeptRow (ds : List Decl) (s : Written) (r : Row) : Type 0 where
  pub own : (v : ℕ) → width s ≤ v → kind s v ≡ unused
  pub parts : AreParts (table_of ds) r.parts
  pub invariant : (v : ℕ) → Contains (flat_map inner r.parts) v → (v < width s) × (kind s v ≡ bound)
  pub covariant : (w : ℕ) → Contains (flat_map outer r.parts) w → (root s w < width s) × (((kind s w ≡ diagonal) × (root s w ≡ w)) ⊎ (kind s (root s w) ≡ bound))
  pub low : (v : ℕ) → v < width s → IsPlain ds (low s v)
  pub top : (v : ℕ) → v < width s → IsKeptTop ds s r v
  pub before : IsInOrder s

-- the list tells which variables are diagonal
pub record AreDiagonals (s : Written) (bs : List Bool) : Type 0 where
  pub long : length bs ≡ width s
  pub kinds : (v : ℕ) → v < width s → get_or bs v false ≡ is_diagonal (kind s v)

pub record IsKeptPart (ds : List Decl) (s : Written) (u : Ty) : Type 0 where
  pub part : IsPart (table_of ds) u
  pub covariant : EachVar (IsPlace s) (outer u)

pub record AreKeptParts (ds : List Decl) (s : Written) (us : List Ty) : Type 0 where
  pub parts : AreParts (table_of ds) us
  pub covariant : EachVar (IsPlace s) (flat_map outer us)

-- normal forms whose nominal types are declared
pub record AreGround (ds : List Decl) (ts : List Ty) : Type 0 where
  pub normal : AllNormal (table_of ds) ts
  pub known : IsTrue (list_all (is_known (length ds)) ts)

-- concrete normal types
pub record AreConcrete (ds : List Decl) (ts : List Ty) : Type 0 where
  pub normal : AllNormal (table_of ds) ts
  pub known : IsTrue (list_all (is_known (length ds)) ts)
  pub closed : flat_map vars_in ts ≡ []
  pub concrete : IsTrue (list_all (is_concrete (table_of ds) opaque) ts)

-- the types f put for the variables serve, and the types ts are below the parts
pub record Fits (n : Table) (s : Written) (r : Row) (ts : List Ty) (f : ℕ → Ty) : Type 0 where
  pub serves : Serves n opaque s r f
  pub below : Both (λ t u. Below n opaque t (put (λ v. f (root s v)) u)) ts r.parts

-- A row k of t stands for a row r of s: the same variables of the same kinds stand in both, and the parts and bounds are equal
-- types.
pub record StandsFor (n : Table) (s t : Written) (r k : Row) : Type 0 where
  pub width : width s ≡ width t
  pub kinds : (v : ℕ) → kind s v ≡ kind t v
  pub parts : Both (Equal n) r.parts k.parts
  pub low : (v : ℕ) → Occurs s v r.parts → Equal n (low s v) (low t v)
  pub top : (v : ℕ) → Occurs s v r.parts → Equal n (top s r v) (top t k v)
  pub stays : (v : ℕ) → Occurs s v r.parts → Occurs t v k.parts
  pub comes : (v : ℕ) → Occurs t v k.parts → Occurs s v r.parts

mutual
  -- a component of a signature: no variable stands in a union or tuple below a nominal type
  pub data IsComponent : Ty → Type 0 where
    any : (t : Ty) → out-Ty t ≡ Any → IsComponent t
    variable : (t : Ty) (v : ℕ) → out-Ty t ≡ Var v → IsComponent t
    union : (t : Ty) (ts : List Ty) → out-Ty t ≡ Union ts → AreComponents ts → IsComponent t
    tuple : (t : Ty) (ts : List Ty) → out-Ty t ≡ Tuple ts → AreComponents ts → IsComponent t
    nominal : (t : Ty) (k : ℕ) (ts : List Ty) → out-Ty t ≡ Nominal k ts → AreOpen ts → IsComponent t

  pub data AreComponents : List Ty → Type 0 where
    components_end : AreComponents []
    components_more : (t : Ty) (ts : List Ty) → IsComponent t → AreComponents ts → AreComponents (t ∷ ts)

-- a signature with the bounds bs, and otherwise as s
abbrev pub with_bounds : Written → List Bound → Written
with_bounds s bs = record { vars = bs; parts = s.parts }

-- a type without variables, and its normal form
pub record IsPlainForm (ds : List Decl) (t u : Ty) : Type 0 where
  pub closed : vars_in t ≡ []
  pub plain : IsPlain ds u
  pub equal : Equal (table_of ds) t u

-- The bounds b of variable v, of which the upper one mentions variables before v, and what is kept of them: the same nominal type
-- with its arguments in normal form.
pub record IsNamedForm (ds : List Decl) (v : ℕ) (b c : Bound) : Type 0 where
  pub number : ℕ
  pub args : List Ty
  pub forms : List Ty
  pub is_low : b.low ≡ V.Union []
  pub is_high : b.high ≡ V.Nominal number args
  pub kept_low : c.low ≡ V.Union []
  pub kept_high : c.high ≡ V.Nominal number forms
  pub opened : AreOpen args
  pub settled : Both (IsNormalForm (table_of ds)) args forms
  pub known : IsTrue (is_known (length ds) c.high)
  pub before : (w : ℕ) → Contains (flat_map vars_in args) w → w < v

-- the bounds of a variable, and what is kept of them
pub record IsKeptBound (ds : List Decl) (v : ℕ) (b c : Bound) : Type 0 where
  pub low : IsPlainForm ds b.low c.low
  pub high : IsPlainForm ds b.high c.high ⊎ IsNamedForm ds v b c

-- What is kept of a row r of s: the bounds without variables are the normal forms of those of s, and the others, the parts and the
-- chosen alternatives have their arguments in normal form.
pub record AreKept (ds : List Decl) (s : Written) (r : Row) (bs : List Bound) (us vs : List Ty) : Type 0 where
  pub own : HasOwnVariables s
  pub placed : AreComponents s.parts
  pub long : length bs ≡ width s
  pub bounds : (v : ℕ) → v < width s → IsKeptBound ds v (get_or s.vars v free) (get_or bs v free)
  pub plain : (v : ℕ) → v < width s → IsPlain ds (at vs v) ⊎ (at vs v ≡ (get_or bs v free).high)
  pub chosen : (v : ℕ) → kind s v ≡ diagonal → Stands s v r.parts → Equal (table_of ds) (r.chosen v) (at vs v)
  pub parts : Both (Settles (IsNormalForm (table_of ds))) r.parts us
