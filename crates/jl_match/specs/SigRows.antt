-- The rows of a signature as they are kept.
use Rattle.std.specs.Prelude.{◌≡◌, ◌⊎◌, List, [], ◌∷◌, length}
use Rattle.jl_model.specs.declared.ty.Decl.{Decl}
use Rattle.jl_model.specs.declared.ty.Written.{Written}
use Rattle.jl_model.specs.Rows.{width}
use Rattle.jl_model.specs.Signature.{Row, IsRow}
use Rattle.jl_model.specs.Subtype.{Table}
use Rattle.jl_match.specs.KeptRow.{row_of, IsKeptRow, StandsFor}
use Rattle.jl_sig.specs.declared.row.SigRow.{SigRow}

abbrev pub kept_row : SigRow → Row
kept_row k = row_of k.parts k.chosen

-- each is a kept row, with a place for each variable
abbrev pub AreKeptRows : List Decl → Written → List SigRow → Type 0
AreKeptRows ds t [] = Unit {0}
AreKeptRows ds t (k ∷ ks) = (length k.chosen ≡ width t) × IsKeptRow ds t (kept_row k) × AreKeptRows ds t ks

-- each stands for a row of the signature s
abbrev pub AllStand : Table → Written → Written → List SigRow → Type 0
AllStand n s t [] = Unit {0}
AllStand n s t (k ∷ ks) = ((r : Row) × IsRow n s r × StandsFor n s t r (kept_row k)) × AllStand n s t ks

-- one of them stands for the row r
abbrev pub SomeStands : Table → Written → Written → Row → List SigRow → Type 0
SomeStands n s t r [] = ⊥
SomeStands n s t r (k ∷ ks) = StandsFor n s t r (kept_row k) ⊎ SomeStands n s t r ks

-- they are the rows of s: each stands for a row, and each row has one that stands for it
pub record AreRowsOf (n : Table) (s t : Written) (ks : List SigRow) : Type 0 where
  pub each : AllStand n s t ks
  pub all : (r : Row) → IsRow n s r → SomeStands n s t r ks
