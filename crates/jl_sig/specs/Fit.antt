-- Types whose arguments have small normal forms.
use Rattle.std.specs.Prelude.{IsTrue, List, [], ◌∷◌, length}
use Rattle.std.specs.List.{Contains}
use Rattle.jl_model.specs.declared.ty.Ty.{Ty}
use Rattle.jl_model.specs.declared.ty.Decl.{Decl}
use Rattle.jl_model.specs.declared.ty.Written.{Written}
use Rattle.jl_model.specs.Ancestors.{table_of}
use Rattle.jl_model.specs.Signature.{Both}
use Rattle.jl_model.specs.Normal.{IsNormalForm}
use Rattle.jl_model.specs.Valid.{is_known, is_closed}
use Rattle.jl_model.specs.Refusals.{Given, given_in, bound_types}
use Rattle.jl_model.specs.SigRefusals.{is_argument, is_component}
use Rattle.jl_model.specs.AllRows.{Listed}
use Rattle.jl_types.specs.Form.{IsTooLarge, Settles}
use Rattle.jl_sig.specs.declared.row.SigRow.{SigRow}

-- an argument without variables is not too large for a normal form
abbrev pub IsSmall : List Decl → Ty → Type 0
IsSmall ds t = IsTrue (is_closed t) → IsTooLarge ds t → ⊥

abbrev pub AllSmallGiven : List Decl → List Given → Type 0
AllSmallGiven ds gs = (a : Given) → Contains gs a → IsSmall ds a.ty

-- a component or a bound that can be kept
pub record IsFit (ds : List Decl) (t : Ty) : Type 0 where
  pub known : IsTrue (is_known (length ds) t)
  pub placed : IsTrue (is_component t)
  pub small : AllSmallGiven ds (given_in t)

-- an argument that can be kept
pub record IsFitArgument (ds : List Decl) (t : Ty) : Type 0 where
  pub known : IsTrue (is_known (length ds) t)
  pub placed : IsTrue (is_argument t)
  pub own : IsSmall ds t
  pub small : AllSmallGiven ds (given_in t)

abbrev pub AllFit : List Decl → List Ty → Type 0
AllFit ds [] = Unit {0}
AllFit ds (t ∷ ts) = IsFit ds t × AllFit ds ts

abbrev pub AllFitArguments : List Decl → List Ty → Type 0
AllFitArguments ds [] = Unit {0}
AllFitArguments ds (t ∷ ts) = IsFitArgument ds t × AllFitArguments ds ts

-- u is t with the arguments of nominal types in normal form
abbrev pub IsKeptAs : List Decl → Ty → Ty → Type 0
IsKeptAs ds = Settles (IsNormalForm (table_of ds))

-- a row as it is kept
pub record IsKeptRow (ds : List Decl) (r : Listed) (k : SigRow) : Type 0 where
  pub parts : Both (IsKeptAs ds) r.parts k.parts
  pub chosen : Both (IsKeptAs ds) r.chosen k.chosen

-- rows that can be kept
abbrev pub AllRowsFit : List Decl → List Listed → Type 0
AllRowsFit ds [] = Unit {0}
AllRowsFit ds (r ∷ rs) = (AllFit ds r.parts × AllFit ds r.chosen) × AllRowsFit ds rs

-- rows as they are kept, one by one
pub data AreKeptRows (ds : List Decl) : List Listed → List SigRow → Type 0 where
  rows_end : AreKeptRows ds [] []
  rows_more : (r : Listed) (k : SigRow) (rs : List Listed) (ks : List SigRow) → IsKeptRow ds r k → AreKeptRows ds rs ks → AreKeptRows ds (r ∷ rs) (k ∷ ks)

-- the signature k is s with the arguments of nominal types in normal form, in its bounds and in its components
pub record IsKeptSignature (ds : List Decl) (s k : Written) : Type 0 where
  pub bounds : Both (IsKeptAs ds) (bound_types s.vars) (bound_types k.vars)
  pub parts : Both (IsKeptAs ds) s.parts k.parts
