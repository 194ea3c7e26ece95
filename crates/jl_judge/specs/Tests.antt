-- The tests of a table: each is what the valid declarations decide.
use Rattle.std.specs.Prelude.{ℕ, Bool, false, ◌&&◌, if◌then◌else◌, nat_lt, List, length, Option, None, Some, slice_get}
use Rattle.std.specs.List.{flat_map, list_all}
use Rattle.jl_model.specs.declared.ty.Ty.{Ty}
use Rattle.jl_model.specs.declared.ty.Decl.{Decl}
use Rattle.jl_model.specs.declared.ty.Written.{Written}
use Rattle.jl_model.specs.Refusals.{Declared}
use Rattle.jl_model.specs.Rows.{vars_in}
use Rattle.jl_model.specs.SigRefusals.{types_in, VariablePlace, UnusedVariable, TooManyParameters, WrongParameterCount, TypeLimit, BoundsCrossed, BoundBroken}
use Rattle.jl_model.specs.Valid.{is_known}
use Rattle.jl_program.specs.BodyTypes.{fields_signature, without_statics}
use Rattle.jl_types.proofs.DecideLemmas.{Decided}
use Rattle.jl_body.specs.TypeRefused.{BodyTypeLimit}
use Rattle.jl_written.specs.declared.fault.StaticKind.{StaticKind}
use Rattle.jl_written.specs.declared.fault.StaticKind.TheVariants as kind
use Rattle.jl_resolve_forms.specs.TypesIn.{Tests}
use Rattle.jl_judge.specs.Right.{IsJudgedBelow}
use Rattle.jl_judge.specs.Decision.{test_of}
use Rattle.jl_judge.specs.BelowDecided.{judged_below_decided}
use Rattle.jl_judge.specs.SigDecided.{place_decided, unused_decided, many_decided, count_decided, limit_decided, body_limit_decided, crossed_decided, broken_decided}

-- the types in it are declared
abbrev pub names_declared : List Decl → Written → Bool
names_declared ds s = list_all (is_known (length ds)) (types_in s)

-- its variables are its own, and the types in it are declared
abbrev pub is_well_named : List Decl → Written → Bool
is_well_named ds s = list_all (λ v. nat_lt v (length s.vars)) (flat_map vars_in (types_in s)) && names_declared ds s

-- the first refusal that these tell, in their order
abbrev pub first_told : Bool → Bool → Bool → Bool → Bool → Bool → Bool → Option StaticKind
first_told place unused many count limit crossed broken =
    if place then Some kind.VariablePlace
    else (if unused then Some kind.UnusedVariable
    else (if many then Some kind.TooManyParameters
    else (if count then Some kind.WrongParameterCount
    else (if limit then Some kind.TypeLimit
    else (if crossed then Some kind.BoundsCrossed
    else (if broken then Some kind.BoundBroken else None))))))

module _ (ds : List Decl) (valid : ∥ Declared ds ∥₁) where
  -- whether a fact holds that the valid declarations decide
  unfoldable pub holds : (P : Type 0) → (Declared ds → Decided P) → Bool
  holds P decided = test_of (Declared ds) P decided valid

  -- whether both types can be judged, and the one is below the other
  unfoldable pub below_test : Ty → Ty → Bool
  below_test t u = holds (IsJudgedBelow ds t u) (λ d. judged_below_decided ds d t u)

  -- the first refusal of a signature
  unfoldable pub signature_refusal : Written → Option StaticKind
  signature_refusal s =
      first_told (holds (VariablePlace s) (λ d. place_decided s)) (holds (UnusedVariable s) (λ d. unused_decided s)) (holds (TooManyParameters s) (λ d. many_decided s))
      (holds (WrongParameterCount ds s) (λ d. count_decided ds s)) (holds (TypeLimit ds s) (λ d. limit_decided ds d s)) (holds (BoundsCrossed ds s) (λ d. crossed_decided ds d s))
      (holds (BoundBroken ds s) (λ d. broken_decided ds d s))

  -- what refuses a signature; of one with other names nothing is said
  unfoldable pub signature_test : Written → Option StaticKind
  signature_test s = if is_well_named ds s then signature_refusal s else None

  -- the first refusal of a type in a body
  unfoldable pub body_refusal : Written → Option StaticKind
  body_refusal s =
      first_told (holds (VariablePlace (without_statics s)) (λ d. place_decided (without_statics s))) (holds (UnusedVariable s) (λ d. unused_decided s)) (holds (TooManyParameters s) (λ d. many_decided s))
      (holds (WrongParameterCount ds s) (λ d. count_decided ds s)) (holds (BodyTypeLimit ds s) (λ d. body_limit_decided ds d s)) (holds (BoundsCrossed ds s) (λ d. crossed_decided ds d s))
      (holds (BoundBroken ds s) (λ d. broken_decided ds d s))

  -- what refuses a type in a body; of one with other names nothing is said
  unfoldable pub body_test : Written → Option StaticKind
  body_test s = if names_declared ds s then body_refusal s else None

  -- whether the signature of the fields of a declared type is too large
  unfoldable pub wide_test : ℕ → Bool
  wide_test p = if nat_lt p (length ds) then holds (TypeLimit ds (fields_signature (slice_get ds p))) (λ d. limit_decided ds d (fields_signature (slice_get ds p))) else false

  -- all of them
  abbrev pub all_tests : Tests
  all_tests = record { below = below_test; signature = signature_test; body = body_test; wide = wide_test }
