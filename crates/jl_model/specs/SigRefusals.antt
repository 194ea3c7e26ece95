-- What refuses a signature, and the signatures that are allowed (Julia manual, Methods: Parametric Methods; Types: UnionAll
-- Types). The declarations are ds, the built-in ones first, and the signature is s.
use Rattle.std.specs.Prelude.{ℕ, ◌+◌, ◌≡◌, ◌<◌, ◌⊎◌, Bool, true, false, ◌&&◌, ◌||◌, not, nat_lt, IsTrue, List, [], ◌∷◌, ◌++◌, map, length, get_or, slice_get}
use Rattle.std.specs.List.{flat_map, list_all, Contains}
use Rattle.jl_model.specs.declared.limits.TheConstants.{MOST_TYPE_NODES, MOST_ALTERNATIVES, MOST_SIGNATURE_ROWS, MOST_ARGUMENTS}
use Rattle.jl_model.specs.declared.ty.Ty.{Ty}
use Rattle.jl_model.specs.declared.ty.Ty.TheOpen.{Ty-F, Any, Union, Tuple, Nominal, Var}
use Rattle.jl_model.specs.declared.ty.Ty.TheViews.{out-Ty}
use Rattle.jl_model.specs.declared.ty.Ty.TheFolds.{para-Ty}
use Rattle.jl_model.specs.declared.ty.Bound.{Bound}
use Rattle.jl_model.specs.declared.ty.Decl.{Decl}
use Rattle.jl_model.specs.declared.ty.Written.{Written}
use Rattle.jl_model.specs.Kinds.{unused}
use Rattle.jl_model.specs.Rows.{free, kind, width, vars_in}
use Rattle.jl_model.specs.Subtype.{Table, opaque, Below}
use Rattle.jl_model.specs.Ancestors.{table_of}
use Rattle.jl_model.specs.Counts.{total, nodes, raw}
use Rattle.jl_model.specs.Normal.{IsNormalForm}
use Rattle.jl_model.specs.Valid.{is_counted, is_closed, params_of}
use Rattle.jl_model.specs.Refusals.{bound_types, Given, given_in, Between}
use Rattle.jl_model.specs.AllRows.{ArePicks, all_rows}

-- the types in a signature: both bounds of each variable, and the components
abbrev pub types_in : Written → List Ty
types_in s = bound_types s.vars ++ s.parts

abbrev pub argument_step : Ty-F (Ty × Bool) → Bool
argument_step Any = true
argument_step (Union es) = list_all (λ e. is_closed e.0) es
argument_step (Tuple es) = list_all (λ e. is_closed e.0) es
argument_step (Nominal _ es) = list_all (λ e. e.1) es
argument_step (Var _) = true

-- no variable stands in a union or a tuple
abbrev pub is_argument : Ty → Bool
is_argument = para-Ty Bool argument_step

abbrev pub component_step : Ty-F (Ty × Bool) → Bool
component_step Any = true
component_step (Union es) = list_all (λ e. e.1) es
component_step (Tuple es) = list_all (λ e. e.1) es
component_step (Nominal _ es) = list_all (λ e. is_argument e.0) es
component_step (Var _) = true

-- no variable stands in a union or a tuple below a nominal type
abbrev pub is_component : Ty → Bool
is_component = para-Ty Bool component_step

abbrev pub bottom_form : Ty-F Ty → Bool
bottom_form (Union []) = true
bottom_form _ = false

abbrev pub is_bottom : Ty → Bool
is_bottom t = bottom_form (out-Ty t)

-- an upper bound with variables is a nominal type, and no variable stands in a union or a tuple of it
abbrev pub named_form : Ty-F Ty → Bool
named_form (Nominal _ ts) = list_all is_argument ts
named_form _ = false

-- Of m variables, the bounds of variable v have none; or the upper one is a nominal type over variables before v, and the lower one is
-- `Union{}`. A number from m on is no variable of these: in a body it is a static parameter, which counts as declared before them.
abbrev pub is_bound : ℕ → ℕ → Bound → Bool
is_bound m v b =
    is_closed b.low && (is_closed b.high || (is_bottom b.low && named_form (out-Ty b.high) && list_all (λ w. nat_lt w v || not (nat_lt w m)) (vars_in b.high)))

abbrev pub are_bounds : ℕ → ℕ → List Bound → Bool
are_bounds m v [] = true
are_bounds m v (b ∷ bs) = is_bound m v b && are_bounds m (v + 1) bs

abbrev pub are_placed : Written → Bool
are_placed s = are_bounds (width s) 0 s.vars && list_all is_component s.parts

-- all arguments of nominal types in it, nested ones too
abbrev pub arguments_in : Written → List Given
arguments_in s = flat_map given_in (types_in s)

-- a bound or an argument without variables
abbrev pub HasClosed : Written → Ty → Type 0
HasClosed s t = (Contains (bound_types s.vars) t ⊎ ((a : Given) × Contains (arguments_in s) a × (a.ty ≡ t))) × IsTrue (is_closed t)

-- the ways in which a signature is too large: its nodes in sum, the raw alternatives of a type in it or of a part of one, the
-- normal form of a bound or an argument without variables, and its rows
abbrev pub ManyNodes : Written → Type 0
ManyNodes s = MOST_TYPE_NODES < total (map nodes (types_in s))

abbrev pub ManyAlternatives : Written → Type 0
ManyAlternatives s = (t : Ty) × Contains (types_in s) t × (MOST_ALTERNATIVES < (raw t).widest)

abbrev pub LargeForm : Table → Written → Type 0
LargeForm n s = (t : Ty) × (u : Ty) × HasClosed s t × IsNormalForm n t u × (MOST_TYPE_NODES < nodes u)

abbrev pub ManyRows : Table → Written → Type 0
ManyRows n s = (picks : ℕ → List Ty) × ArePicks n s picks × (MOST_SIGNATURE_ROWS < length (all_rows s picks))

-- THE REFUSALS, in their order.

-- a variable stands in a union or tuple below a nominal type, or in a bound where it may not
abbrev pub VariablePlace : Written → Type 0
VariablePlace s = are_placed s ≡ false

-- a variable has no place
abbrev pub UnusedVariable : Written → Type 0
UnusedVariable s = (v : ℕ) × (v < width s) × (kind s v ≡ unused)

-- more than 8 parameters
abbrev pub TooManyParameters : Written → Type 0
TooManyParameters s = MOST_ARGUMENTS < length s.parts

-- a nominal type in it has another number of arguments than declared
abbrev pub WrongParameterCount : List Decl → Written → Type 0
WrongParameterCount ds s = list_all (is_counted ds) (types_in s) ≡ false

-- it is too large
abbrev pub TypeLimit : List Decl → Written → Type 0
TypeLimit ds s = ManyNodes s ⊎ ManyAlternatives s ⊎ LargeForm (table_of ds) s ⊎ ManyRows (table_of ds) s

-- a low bound that is not below its high bound; it is below one with variables, since it is `Union{}` there
abbrev pub BoundsCrossed : List Decl → Written → Type 0
BoundsCrossed ds s = (b : Bound) × Contains s.vars b × (Below (table_of ds) opaque b.low b.high → ⊥)

-- an argument without variables outside the declared bounds
abbrev pub BoundBroken : List Decl → Written → Type 0
BoundBroken ds s =
    (a : Given) × Contains (arguments_in s) a × IsTrue (is_closed a.ty)
    × (Between (table_of ds) (get_or (params_of (slice_get ds a.of)) a.place free) a.ty → ⊥)

-- nothing refuses it
pub record IsAllowedSig (ds : List Decl) (s : Written) : Type 0 where
  pub placed : VariablePlace s → ⊥
  pub used : UnusedVariable s → ⊥
  pub few : TooManyParameters s → ⊥
  pub counted : WrongParameterCount ds s → ⊥
  pub small : TypeLimit ds s → ⊥
  pub ordered : BoundsCrossed ds s → ⊥
  pub within : BoundBroken ds s → ⊥
