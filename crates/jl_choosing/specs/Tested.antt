-- Which sites of a program apply to some types, as far as it was asked.
use Rattle.std.specs.Prelude.{ℕ, ◌≡◌, Bool, true, false, List, length, get_or, slice_get, None, Some}
use Rattle.jl_model.specs.declared.ty.Ty.{Ty}
use Rattle.jl_model.specs.Signature.{Applicable}
use Rattle.jl_program.specs.declared.tree.Program.{Program}
use Rattle.jl_program.specs.Scope.{types_of}
use Rattle.jl_calculus.specs.Definitions.{sig_of}
use Rattle.jl_choosing.specs.declared.tested.Tested.{Tested}

-- the signature of a site applies to these types, or it does not
abbrev pub IsAnswer : Program → List Ty → ℕ → Bool → Type 0
IsAnswer P ts site true = Applicable (types_of P) (sig_of (slice_get P.sites site)) ts
IsAnswer P ts site false = Applicable (types_of P) (sig_of (slice_get P.sites site)) ts → ⊥

-- a place for each site, with what it answers if it was asked
pub record AreTested (P : Program) (t : Tested) : Type 0 where
  pub many : length t.answers.items ≡ length P.sites
  pub right : (site : ℕ) (yes : Bool) → get_or t.answers.items site None ≡ Some yes → IsAnswer P t.types site yes
