-- Written types in a body, with the static parameters put in, and what refuses them there (Julia manual, Methods: Parametric
-- Methods; Types: Parametric Types).
use Rattle.std.specs.Prelude.{ℕ, ◌≡◌, ◌-◌, ◌<◌, ◌⊎◌, cond, nat_lt, IsTrue, List, [], ◌∷◌, ◌++◌, map, length, get_or, Some, slice_get}
use Rattle.std.specs.List.{flat_map, Contains}
use Rattle.jl_model.specs.declared.limits.TheConstants.{MOST_TYPE_NODES}
use Rattle.jl_model.specs.declared.ty.Ty.{Ty, out-Ty}
use Rattle.jl_model.specs.declared.ty.Ty.TheOpen.{Ty-F, Any, Union, Tuple, Nominal, Var}
use Rattle.jl_model.specs.declared.ty.Ty.TheVariants as W
use Rattle.jl_model.specs.declared.ty.Ty.TheViews as T
use Rattle.jl_model.specs.declared.ty.Ty.TheFolds.{para-Ty}
use Rattle.jl_model.specs.declared.ty.Bound.{Bound}
use Rattle.jl_model.specs.declared.ty.Decl.{Decl}
use Rattle.jl_model.specs.declared.ty.Written.{Written}
use Rattle.jl_model.specs.Ancestors.{table_of}
use Rattle.jl_model.specs.Counts.{nodes, IsWithinLimits}
use Rattle.jl_model.specs.Kept.{Settled}
use Rattle.jl_model.specs.Normal.{IsNormalForm}
use Rattle.jl_model.specs.Refusals.{bound_types, Given, given_from, Between}
use Rattle.jl_model.specs.Rows.{free}
use Rattle.jl_model.specs.Subtype.{Table, put}
use Rattle.jl_model.specs.Valid.{is_closed, params_of}
use Rattle.jl_program.specs.declared.fault.Fault.TheVariants.{BadParameter}
use Rattle.jl_calculus.specs.Answers.{Refusal}

-- what stands for a variable of a written type with so many variables of its own: these stay, and static parameter i has the
-- type that is bound to it
abbrev pub own_or_bound : List Ty → ℕ → ℕ → Ty
own_or_bound statics own v = cond (nat_lt v own) (W.Var v) (get_or statics (v - own) W.Any)

abbrev pub put_bound : (ℕ → Ty) → Bound → Bound
put_bound f b = record { low = put f b.low; high = put f b.high }

-- the written type with the static parameters put in
abbrev pub with_statics : List Ty → Written → Written
with_statics statics t = record {
  vars = map (put_bound (own_or_bound statics (length t.vars))) t.vars;
  parts = map (put (own_or_bound statics (length t.vars))) t.parts;
}

abbrev pub nominals_step : Ty-F (Ty × List Ty) → List Ty
nominals_step Any = []
nominals_step (Union es) = flat_map (λ e. e.1) es
nominals_step (Tuple es) = flat_map (λ e. e.1) es
nominals_step (Nominal k es) = flat_map (λ e. e.1) es ++ T.Nominal k (map (λ e. e.0) es) ∷ []
nominals_step (Var v) = []

-- the nominal types in a type, from left to right, each after those in its arguments
abbrev pub nominals_in : Ty → List Ty
nominals_in = para-Ty (List Ty) nominals_step

-- the nominal types in a signature, those in its parts before those in its bounds
abbrev pub nominals_of : Written → List Ty
nominals_of t = flat_map nominals_in (t.parts ++ bound_types t.vars)

abbrev pub Breaks : List Decl → Ty-F Ty → Type 0
Breaks ds Any = ⊥
Breaks ds (Union ts) = ⊥
Breaks ds (Tuple ts) = ⊥
Breaks ds (Nominal k ts) =
    (a : Given) × Contains (given_from k 0 ts) a × IsTrue (is_closed a.ty)
    × (Between (table_of ds) (get_or (params_of (slice_get ds k)) a.place free) a.ty → ⊥)
Breaks ds (Var v) = ⊥

-- an argument without variables of this nominal type is outside the declared bounds
abbrev pub IsBroken : List Decl → Ty → Type 0
IsBroken ds t = Breaks ds (out-Ty t)

-- the first of a list of types that is broken
pub record IsFirstBroken (ds : List Decl) (ts : List Ty) (t : Ty) : Type 0 where
  pub place : ℕ
  pub there : slice_get ts place ≡ Some t
  pub broken : IsBroken ds t
  pub first : (i : ℕ) (u : Ty) → i < place → slice_get ts i ≡ Some u → IsBroken ds u → ⊥

-- the first broken one of these nominal types, told with each argument without variables in normal form
abbrev pub is_bad_parameter : List Decl → List Ty → Refusal
is_bad_parameter ds ts e = (t : Ty) × (u : Ty) × IsFirstBroken ds ts t × Settled (table_of ds) t u × (e ≡ BadParameter u)

-- a type has no normal form within the limits
abbrev pub NormLimit : Table → Ty → Type 0
NormLimit n t = (IsWithinLimits t → ⊥) ⊎ ((u : Ty) × IsNormalForm n t u × (MOST_TYPE_NODES < nodes u))
