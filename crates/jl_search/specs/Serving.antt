-- What may stand at the places of a row's variables, and what is put for them.
use Rattle.std.specs.Prelude.{ℕ, ◌≡◌, ◌<◌, ◌⊎◌, Bool, IsTrue, List, [], length}
use Rattle.jl_model.specs.declared.ty.Ty.{Ty}
use Rattle.jl_model.specs.declared.ty.Decl.{Decl}
use Rattle.jl_model.specs.declared.ty.Written.{Written}
use Rattle.jl_model.specs.Ancestors.{table_of}
use Rattle.jl_model.specs.Kinds.{diagonal, bound}
use Rattle.jl_model.specs.Rows.{width, low, kind, root, vars_in, Occurs}
use Rattle.jl_model.specs.Signature.{Row, top, is_diagonal}
use Rattle.jl_model.specs.Subtype.{Table, Fixed, put, Below, is_concrete}
use Rattle.jl_model.specs.Normal.{IsNormal}
use Rattle.jl_model.specs.Valid.{is_known}

-- a normal form without variables, of declared nominal types
pub record IsPlain (ds : List Decl) (t : Ty) : Type 0 where
  pub normal : IsNormal (table_of ds) t
  pub known : IsTrue (is_known (length ds) t)
  pub closed : vars_in t ≡ []

-- what may stand at a covariant place of a right row: a diagonal variable, or an atom of a bound one
abbrev pub IsPlace : Written → ℕ → Type 0
IsPlace s w = (root s w < width s) × (((kind s w ≡ diagonal) × (root s w ≡ w)) ⊎ ((kind s (root s w) ≡ bound) × (kind s w ≡ diagonal → ⊥)))

-- what is asked of the type put for a variable of a right row
abbrev pub Within : Table → Fixed → Ty → Ty → Bool → Ty → Type 0
Within n g low high is_diagonal t = Below n g low t × Below n g t high × (IsTrue is_diagonal → IsTrue (is_concrete n g t))

-- what is put for the variable serves, if it is one of the row
abbrev pub ServesAt : Table → Fixed → Written → Row → (ℕ → Ty) → ℕ → Type 0
ServesAt n g s r f v = Occurs s v r.parts → Within n g (put f (low s v)) (put f (top s r v)) (is_diagonal (kind s v)) (f v)
