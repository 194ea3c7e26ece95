-- What a signature has, for contracts.
use Rattle.std.specs.Prelude.{Bool, List}
use Rattle.jl_model.specs.declared.ty.Ty.{Ty}
use Rattle.jl_model.specs.declared.ty.Written.{Written}
use Rattle.jl_sig.specs.declared.row.SigRow.{SigRow}
use Rattle.jl_sig.specs.declared.sig.Sig.{Sig}

-- the signature as it is written
abbrev pub written_of : Sig → Written
written_of g = g.written

-- the signature with the bounds of its variables in normal form, those with variables by the arguments of nominal types in them
abbrev pub bounded_of : Sig → Written
bounded_of g = g.bounded

-- the signature with the arguments of nominal types in normal form
abbrev pub kept_of : Sig → Written
kept_of g = g.kept

-- which variables are diagonal
abbrev pub diagonals_of : Sig → List Bool
diagonals_of g = g.diagonals.items

-- for each variable the alternatives of its upper bound as it is kept
abbrev pub alternatives_of : Sig → List (List Ty)
alternatives_of g = g.alternatives.items

-- all rows as they are kept
abbrev pub rows_of : Sig → List SigRow
rows_of g = g.rows.items
