-- What a signature is prepared as.
use Rattle.std.specs.Prelude.{ℕ, ◌≡◌, ◌≤◌, nat_lt, Bool, false, IsTrue, List, length, map}
use Rattle.std.specs.List.{flat_map, list_all}
use Rattle.jl_model.specs.declared.limits.TheConstants.{MOST_TYPE_NODES, MOST_ALTERNATIVES, MOST_SIGNATURE_ROWS}
use Rattle.jl_model.specs.declared.ty.Ty.{Ty}
use Rattle.jl_model.specs.declared.ty.Bound.{Bound}
use Rattle.jl_model.specs.declared.ty.Decl.{Decl}
use Rattle.jl_model.specs.declared.ty.Written.{Written}
use Rattle.jl_model.specs.Ancestors.{table_of}
use Rattle.jl_model.specs.Rows.{alts, high, kind, low, vars_in}
use Rattle.jl_model.specs.Signature.{Both, is_diagonal}
use Rattle.jl_model.specs.Subtype.{Table}
use Rattle.jl_model.specs.Valid.{is_known, is_closed}
use Rattle.jl_model.specs.Refusals.{bound_types}
use Rattle.jl_model.specs.SigRefusals.{types_in, arguments_in, is_bottom, VariablePlace, TypeLimit, BoundsCrossed}
use Rattle.jl_model.specs.AllRows.{Listed, ArePicks, all_rows, each_var}
use Rattle.jl_model.specs.Counts.{nodes, total}
use Rattle.jl_sig.specs.declared.forms.Forms.{Forms}
use Rattle.jl_sig.specs.declared.row.SigRow.{SigRow}
use Rattle.jl_sig.specs.declared.sig.Sig.{Sig}
use Rattle.jl_sig.specs.declared.sig.Prepared.{Prepared}
use Rattle.jl_sig.specs.Parts.{HasWide, all_given}
use Rattle.jl_sig.specs.SigParts.{written_of, bounded_of, kept_of, diagonals_of, alternatives_of, rows_of}
use Rattle.jl_sig.specs.Forms.{IsBoundForm, AreFormed, lows}
use Rattle.jl_sig.specs.Fit.{IsFit, AllFit, AreKeptRows, IsKeptSignature}

-- each variable in the bounds and the components is one of the signature
abbrev pub HasOwnVariables : Written → Type 0
HasOwnVariables s = IsTrue (list_all (λ v. nat_lt v (length s.vars)) (flat_map vars_in (types_in s)))

-- Its rows can be built: its variables are its own, it has few, and their upper bounds have few alternatives. Where a lower bound is
-- other than `Union{}` the upper one can be kept. The lower bounds stand beside it as they are compared.
pub record IsExpandable (ds : List Decl) (s : Written) (bounds : List Bound) : Type 0 where
  pub own : HasOwnVariables s
  pub fit : (v : ℕ) → is_bottom (low s v) ≡ false → IsFit ds (high s v)
  pub forms : Both (IsBoundForm ds) (lows s.vars) (lows bounds)
  pub few : length s.vars ≤ MOST_TYPE_NODES
  pub narrow : (v : ℕ) → length (alts (high s v)) ≤ MOST_ALTERNATIVES

-- its rows can be built, its bounds and its components can be kept, and the bounds stand beside it in normal form
pub record IsBuildable (ds : List Decl) (s : Written) (bounds : List Bound) : Type 0 where
  pub rows : IsExpandable ds s bounds
  pub fit : AllFit ds (bound_types s.vars)
  pub parts : AllFit ds s.parts
  pub forms : Both (IsBoundForm ds) (bound_types s.vars) (bound_types bounds)

-- these are all rows of the signature, and no more than 256
pub record AreAllRows (n : Table) (s : Written) (rs : List Listed) : Type 0 where
  pub picks : ℕ → List Ty
  pub hold : ArePicks n s picks
  pub are : rs ≡ all_rows s picks
  pub few : length rs ≤ MOST_SIGNATURE_ROWS

-- it has few nodes and few alternatives, and these are its bounds and its arguments without variables in normal form
pub record AreFormsOf (ds : List Decl) (s : Written) (f : Forms) : Type 0 where
  pub few : total (map nodes (types_in s)) ≤ MOST_TYPE_NODES
  pub narrow : HasWide (types_in s) → ⊥
  pub bounds : Both (IsBoundForm ds) (bound_types s.vars) (bound_types f.bounds)
  pub arguments : AreFormed ds (arguments_in s) (all_given f.arguments.items)

-- its names are those of the table, its variables are its own, and they stand where they may
pub record IsWellPlaced (ds : List Decl) (s : Written) : Type 0 where
  pub own : HasOwnVariables s
  pub known : IsTrue (list_all (is_known (length ds)) (types_in s))
  pub placed : VariablePlace s → ⊥

-- these are all rows of the signature, as they are kept
abbrev pub HasKeptRows : List Decl → Written → List SigRow → Type 0
HasKeptRows ds s ks = (rs : List Listed) × AreAllRows (table_of ds) s rs × AreKeptRows ds rs ks

-- these tell of each variable whether it is diagonal
abbrev pub AreDiagonals : Written → List Bool → Type 0
AreDiagonals s bs = bs ≡ each_var (λ v. is_diagonal (kind s v)) 0 s.vars

-- What is kept of a signature that is small: the signature with the bounds of its variables in normal form, the signature with
-- the arguments of nominal types in normal form, all its rows so, which variables are diagonal, and for each variable
-- the alternatives of its upper bound as it is kept. An upper bound with variables is the same in both.
pub record IsKeptOf (ds : List Decl) (g : Sig) : Type 0 where
  pub placed : IsWellPlaced ds (written_of g)
  pub small : TypeLimit ds (written_of g) → ⊥
  pub bounds : Both (IsBoundForm ds) (bound_types (written_of g).vars) (bound_types (bounded_of g).vars)
  pub named : (v : ℕ) → is_closed (high (written_of g) v) ≡ false → high (bounded_of g) v ≡ high (kept_of g) v
  pub parts : (bounded_of g).parts ≡ (written_of g).parts
  pub kept : IsKeptSignature ds (written_of g) (kept_of g)
  pub rows : HasKeptRows ds (written_of g) (rows_of g)
  pub diagonals : AreDiagonals (written_of g) (diagonals_of g)
  pub alternatives : alternatives_of g ≡ map (λ b. alts b.high) (kept_of g).vars

-- a signature, written or of a struct's fields, that may be matched and compared: its bounds are in order, and this is kept of it
pub record IsSigOf (ds : List Decl) (g : Sig) : Type 0 where
  pub kept : IsKeptOf ds g
  pub ordered : BoundsCrossed ds (written_of g) → ⊥

-- a signature that is small, with what is kept of it and its arguments without variables in normal form
pub record IsPrepared (ds : List Decl) (s : Written) (p : Prepared) : Type 0 where
  pub written : written_of p.sig ≡ s
  pub kept : IsKeptOf ds p.sig
  pub arguments : AreFormed ds (arguments_in s) (all_given p.arguments.items)
  pub small : TypeLimit ds s → ⊥
