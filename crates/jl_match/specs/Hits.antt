-- What the walk over a row finds: types without variables.
use Rattle.std.specs.Prelude.{List, Option, None, Some}
use Rattle.jl_model.specs.declared.ty.Ty.{Ty}
use Rattle.jl_model.specs.declared.ty.Decl.{Decl}
use Rattle.jl_search.specs.Serving.{IsPlain}

-- what is found, if anything, is a normal form without variables
abbrev pub IsPlainHit : List Decl → Option Ty → Type 0
IsPlainHit ds None = Unit {0}
IsPlainHit ds (Some t) = IsPlain ds t
