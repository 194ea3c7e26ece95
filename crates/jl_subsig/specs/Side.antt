-- A row of a signature with what is kept of both, for the walks over two rows.
use Rattle.std.specs.Prelude.{ℕ, ◌-◌, ◌%◌, ◌/◌, ◌≡◌, ◌<◌, ◌↔◌, Bool, true, false, cond, nat_lt, IsTrue, ◌⊎◌, List, [], ◌∷◌, ◌++◌, map, length, get_or, Option, None}
use Rattle.std.specs.List.{flat_map, list_all, Contains}
use Rattle.jl_model.specs.declared.ty.Ty.{Ty}
use Rattle.jl_model.specs.declared.ty.Ty.TheOpen.{Ty-F, Any, Union, Tuple, Nominal, Var}
use Rattle.jl_model.specs.declared.ty.Ty.TheViews.{out-Ty}
use Rattle.jl_model.specs.declared.ty.Ty.TheViews as V
use Rattle.jl_model.specs.declared.ty.Bound.{Bound}
use Rattle.jl_model.specs.declared.ty.Decl.{Decl}
use Rattle.jl_model.specs.declared.ty.Written.{Written}
use Rattle.jl_model.specs.Ancestors.{table_of}
use Rattle.jl_model.specs.Kinds.{diagonal}
use Rattle.jl_model.specs.Rows.{alts, free, width, low, high, kind, vars_in, Occurs}
use Rattle.jl_model.specs.Signature.{Row, IsRow, top, fixed, is_diagonal}
use Rattle.jl_model.specs.Subtype.{Table, Fixed, at, lifted, Equal}
use Rattle.jl_model.specs.Normal.{IsNormal, AllNormal, is_single}
use Rattle.jl_model.specs.Valid.{is_known}
use Rattle.jl_model.specs.Refusals.{bound_types}
use Rattle.jl_types.specs.Ground.{AreSingles}
use Rattle.jl_sig.specs.declared.row.SigRow.{SigRow}
use Rattle.jl_subsume.specs.Scoped.{IsScoped, IsPlaced, IsOrdered, HasNormalArguments}
use Rattle.jl_model.specs.SigRefusals.{is_argument}
use Rattle.jl_model.specs.Found.{outer}
use Rattle.jl_sig.specs.declared.sig.Sig.{Sig}
use Rattle.jl_sig.specs.SigParts.{kept_of, bounded_of, diagonals_of, alternatives_of}
use Rattle.jl_search.specs.Occurring.{IsInOrder}
use Rattle.jl_search.specs.Open.{AreOpen}
use Rattle.jl_search.specs.Serving.{IsPlain, IsPlace}

abbrev pub row_of : SigRow → Row
row_of r = record { parts = r.parts; chosen = at r.chosen }

-- the variables of a row, held fixed
abbrev pub held : Sig → SigRow → Fixed
held s r = fixed (kept_of s) (row_of r)

-- a normal form of declared nominal types, with no variable in a union
pub record IsItem (ds : List Decl) (t : Ty) : Type 0 where
  pub normal : IsNormal (table_of ds) t
  pub known : IsTrue (is_known (length ds) t)
  pub whole : is_single t ≡ false → vars_in t ≡ []

-- they have no variables
pub record ArePlain (ds : List Decl) (ts : List Ty) : Type 0 where
  pub singles : AreSingles ds ts
  pub closed : flat_map vars_in ts ≡ []

abbrev pub Every : {A : Type 0} → (A → Type 0) → List A → Type 0
Every P [] = Unit {0}
Every P (t ∷ ts) = P t × Every P ts

abbrev pub AnyOf : {A : Type 0} → (A → Type 0) → List A → Type 0
AnyOf P [] = ⊥
AnyOf P (t ∷ ts) = P t ⊎ AnyOf P ts

-- no variable stands at a covariant place
pub data IsRigid : Ty → Type 0 where
  closed : (t : Ty) → vars_in t ≡ [] → IsRigid t
  applied : (t : Ty) (k : ℕ) (ts : List Ty) → out-Ty t ≡ Nominal k ts → IsRigid t

-- u is a normal form of t, and neither has variables
pub record IsPlainForm (ds : List Decl) (t u : Ty) : Type 0 where
  pub closed : vars_in t ≡ []
  pub plain : IsPlain ds u
  pub equal : Equal (table_of ds) t u

-- a nominal type of declared nominal types whose arguments are normal forms, with no variable in a union or tuple of them
pub record IsNamed (ds : List Decl) (t : Ty) : Type 0 where
  pub number : ℕ
  pub args : List Ty
  pub is : t ≡ V.Nominal number args
  pub normal : AllNormal (table_of ds) args
  pub known : IsTrue (is_known (length ds) t)
  pub opened : AreOpen args

-- what an upper bound may be: a normal form without variables, or a nominal type with variables in its arguments
pub data IsHigh (ds : List Decl) : Ty → Type 0 where
  high_plain : (t : Ty) → IsPlain ds t → IsHigh ds t
  high_named : (t : Ty) → IsNamed ds t → IsHigh ds t

-- u is a normal form of the upper bound t
pub data IsHighForm (ds : List Decl) : Ty → Ty → Type 0 where
  form_plain : (t u : Ty) → IsPlainForm ds t u → IsHighForm ds t u
  form_named : (t : Ty) → IsNamed ds t → IsHighForm ds t t

-- an alternative of an upper bound
pub record IsAlternative (ds : List Decl) (t : Ty) : Type 0 where
  pub high : IsHigh ds t
  pub single : IsTrue (is_single t)

-- What may stand in a left row: a normal form of declared nominal types, with no variable in a union, whose variables and atoms
-- at covariant places have such upper bounds.
pub record IsLeftPart (ds : List Decl) (g : Fixed) (t : Ty) : Type 0 where
  pub item : IsItem ds t
  pub raises : (k : ℕ) → Contains (outer t) k → IsHigh ds (g.high k)

pub record AreLeftParts (ds : List Decl) (g : Fixed) (ts : List Ty) : Type 0 where
  pub singles : AreSingles ds ts
  pub raises : (k : ℕ) → Contains (flat_map outer ts) k → IsHigh ds (g.high k)

-- the arguments of the ancestor m of a nominal type, or of the type itself
abbrev pub lift_to : Table → ℕ → Ty-F Ty → Option (List Ty)
lift_to n m (Nominal k xs) = lifted n k xs m
lift_to n m Any = None
lift_to n m (Union ts) = None
lift_to n m (Tuple ts) = None
lift_to n m (Var v) = None

-- a part of a right row: no union stands at a covariant place, and arguments are normal forms
module _ (n : Table) (s : Written) where
  mutual
    pub data IsRightPart : Ty → Type 0 where
      right_any : (t : Ty) → out-Ty t ≡ Any → IsRightPart t
      right_variable : (t : Ty) (v : ℕ) → out-Ty t ≡ Var v → IsPlace s v → IsRightPart t
      right_tuple : (t : Ty) (ts : List Ty) → out-Ty t ≡ Tuple ts → AreRightParts ts → IsRightPart t
      right_nominal : (t : Ty) (k : ℕ) (ts : List Ty) → out-Ty t ≡ Nominal k ts → AllNormal n ts → IsTrue (list_all is_argument ts) → IsRightPart t

    pub data AreRightParts : List Ty → Type 0 where
      right_end : AreRightParts []
      right_more : (t : Ty) (ts : List Ty) → IsRightPart t → AreRightParts ts → AreRightParts (t ∷ ts)

-- the kept form of a signature, with its bounds in normal form
abbrev pub sided : Sig → Written
sided s = record { vars = (bounded_of s).vars; parts = (kept_of s).parts }

-- one for each variable
pub record AreValues (ds : List Decl) (m : ℕ) (vs : List Ty) : Type 0 where
  pub long : length vs ≡ m
  pub items : (v : ℕ) → v < m → IsItem ds (at vs v)

-- the list tells which variables are diagonal
pub record AreDiagonalsOf (s : Sig) : Type 0 where
  pub long : length (diagonals_of s) ≡ width (kept_of s)
  pub wide : length (bounded_of s).vars ≡ width (kept_of s)
  pub kinds : (v : ℕ) → get_or (diagonals_of s) v false ≡ is_diagonal (kind (sided s) v)

-- each variable of a right row is one of the signature, the lower bounds have no variables, and the upper ones are such bounds over
-- variables before their own
pub record IsRightRow (ds : List Decl) (s : Sig) (r : SigRow) : Type 0 where
  pub own : (v : ℕ) → Occurs (sided s) v r.parts → v < width (kept_of s)
  pub lows : (v : ℕ) → IsPlain ds (low (sided s) v)
  pub tops : (v : ℕ) → IsHigh ds (top (sided s) (row_of r) v)
  pub ordered : IsInOrder (sided s)

-- of each variable, whether it is one of the row, where the bounds mention variables
abbrev pub HasFlags : Bool → Written → List Ty → List Bool → Type 0
HasFlags true s row fs = (length fs ≡ width s) × ((v : ℕ) → v < width s → IsTrue (get_or fs v false) ↔ Occurs s v row)
HasFlags false s row fs = Unit {0}

-- the upper bound of each variable and atom of a row, where bs are the bounds of the variables
abbrev pub tops : List Bound → Sig → SigRow → ℕ → Ty
tops bs s r k =
    cond (nat_lt k (length bs)) (cond (get_or (diagonals_of s) k false) (at r.chosen k) (get_or bs k free).high)
    (at (get_or (alternatives_of s) (k % length bs) []) (k / length bs - 1))

-- what is kept of a signature's variables, one for each
pub record IsLong (bs : List Bound) (s : Sig) (r : SigRow) : Type 0 where
  pub diagonals : length (diagonals_of s) ≡ length bs
  pub alternatives : length (alternatives_of s) ≡ length bs
  pub chosen : length r.chosen ≡ length bs

-- what is kept tells the upper bounds of a row's variables and atoms
pub record IsTold (s : Sig) (r : SigRow) : Type 0 where
  pub long : IsLong (kept_of s).vars s r
  pub diagonals : (v : ℕ) → get_or (diagonals_of s) v false ≡ is_diagonal (kind (kept_of s) v)
  pub alternatives : (alternatives_of s) ≡ map (λ b. alts b.high) (kept_of s).vars

-- what is kept of the bounds of the variables of a row
pub record AreHeld (ds : List Decl) (s : Sig) (r : SigRow) : Type 0 where
  pub told : IsTold s r
  pub wide : length (bounded_of s).vars ≡ width (kept_of s)
  pub lows : (v : ℕ) → v < width (kept_of s) → IsPlainForm ds (low (kept_of s) v) (low (bounded_of s) v)
  pub highs : (v : ℕ) → v < width (kept_of s) → IsHighForm ds (high (kept_of s) v) (high (bounded_of s) v)
  -- the kinds are the same with the bounds in normal form
  pub kinds : (v : ℕ) → kind (sided s) v ≡ kind (kept_of s) v
  pub chosen : (v : ℕ) → v < width (kept_of s) → kind (kept_of s) v ≡ diagonal → IsAlternative ds (at r.chosen v)
  pub atom : (v i : ℕ) → v < width (kept_of s) → IsAlternative ds (at (alts (high (kept_of s) v)) i)

-- a row of a kept signature that nothing refuses
pub record IsSide (ds : List Decl) (s : Sig) (r : SigRow) : Type 0 where
  pub held : AreHeld ds s r
  pub scoped : IsScoped (kept_of s)
  pub placed : IsPlaced (kept_of s)
  pub ordered : IsOrdered (table_of ds) (kept_of s)
  pub normal : HasNormalArguments (table_of ds) (kept_of s)
  pub known : IsTrue (list_all (is_known (length ds)) (bound_types (kept_of s).vars ++ (kept_of s).parts))
  pub row : IsRow (table_of ds) (kept_of s) (row_of r)
