-- What is kept of a signature that nothing refuses.
use Rattle.std.specs.Prelude.{ℕ, ◌≡◌, ◌<◌, IsTrue, List, length, get_or}
use Rattle.std.specs.List.{list_all}
use Rattle.jl_model.specs.declared.ty.Decl.{Decl}
use Rattle.jl_model.specs.declared.ty.Bound.{Bound}
use Rattle.jl_model.specs.declared.ty.Written.{Written}
use Rattle.jl_model.specs.Rows.{free, width, high}
use Rattle.jl_model.specs.Valid.{is_known}
use Rattle.jl_model.specs.SigRefusals.{is_component}
use Rattle.jl_sig.specs.Prepared.{HasOwnVariables}
use Rattle.jl_match.specs.KeptRow.{IsKeptBound}

-- A signature that nothing refuses, with what is kept of its bounds.
pub record IsKeptSig (ds : List Decl) (s : Written) (bs : List Bound) : Type 0 where
  pub own : HasOwnVariables s
  pub placed : IsTrue (list_all is_component s.parts)
  pub long : length bs ≡ width s
  pub known : (v : ℕ) → v < width s → IsTrue (is_known (length ds) (high s v))
  pub bounds : (v : ℕ) → v < width s → IsKeptBound ds v (get_or s.vars v free) (get_or bs v free)
