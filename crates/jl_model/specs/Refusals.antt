-- What refuses a declaration, and the lists of declarations that are valid (Julia manual, Types: Abstract Types, Composite
-- Types, Parametric Types). The declarations before it are ds, the built-in ones first, and the declaration is d, whose own
-- number is the number of those before it.
use Rattle.std.specs.Prelude.{ℕ, ◌+◌, ◌≡◌, ◌<◌, ◌≤◌, ◌⊎◌, Bool, true, false, ◌&&◌, not, nat_eq, nat_lt, IsTrue, List, [], ◌∷◌, ◌++◌, map, length, Option, None, Some, get_or, slice_get}
use Rattle.std.specs.List.{flat_map, list_all, Contains}
use Rattle.jl_model.specs.declared.builtin.TheConstants.{BUILTIN_TYPES}
use Rattle.jl_model.specs.declared.limits.TheConstants.{MOST_TYPE_NODES, MOST_DECLARED_TYPES, MOST_TYPE_PARAMETERS, MOST_FIELDS, MOST_ANCESTORS}
use Rattle.jl_model.specs.declared.ty.Ty.{Ty}
use Rattle.jl_model.specs.declared.ty.Ty.TheOpen.{Ty-F, Any, Union, Tuple, Nominal, Var}
use Rattle.jl_model.specs.declared.ty.Ty.TheViews.{out-Ty}
use Rattle.jl_model.specs.declared.ty.Ty.TheViews as V
use Rattle.jl_model.specs.declared.ty.Ty.TheFolds.{fold-Ty, para-Ty}
use Rattle.jl_model.specs.declared.ty.Bound.{Bound}
use Rattle.jl_model.specs.declared.ty.Decl.{Decl}
use Rattle.jl_model.specs.declared.ty.DeclKind.{DeclKind}
use Rattle.jl_model.specs.declared.ty.DeclKind.TheVariants.{Abstract, Struct}
use Rattle.jl_model.specs.Rows.{free, vars_in}
use Rattle.jl_model.specs.Subtype.{Table, opaque, Below}
use Rattle.jl_model.specs.Ancestors.{Ancestor, line_above, lines_after, table_of, builtin_types}
use Rattle.jl_model.specs.Counts.{nodes, IsWithinLimits}
use Rattle.jl_model.specs.Normal.{IsNormalForm}
use Rattle.jl_model.specs.Valid.{is_known, is_counted, is_closed, params_of}
use Rattle.jl_model.specs.Kept.{field_types, IsKept}

-- the types in a declaration
abbrev pub bound_types : List Bound → List Ty
bound_types [] = []
bound_types (b ∷ bs) = b.low ∷ b.high ∷ bound_types bs

abbrev pub types_of : Decl → List Ty
types_of d = bound_types d.params ++ d.parent ∷ field_types d.fields

-- the table that the declaration would make
abbrev pub table_with : List Decl → Decl → Table
table_with ds d = table_of (ds ++ d ∷ [])

-- a struct may name itself in its fields
abbrev pub own : DeclKind → ℕ
own Abstract = 0
own Struct = 1

abbrev pub is_abstract_kind : Option Decl → Bool
is_abstract_kind None = false
is_abstract_kind (Some d) = elim d.kind [ Abstract ↦ true | Struct ↦ false ]

-- `Any` or an abstract type
abbrev pub is_abstract_parent : List Decl → Ty-F Ty → Bool
is_abstract_parent ds Any = true
is_abstract_parent ds (Nominal k _) = is_abstract_kind (slice_get ds k)
is_abstract_parent ds _ = false

abbrev pub free_step : ℕ → Ty-F Bool → Bool
free_step m Any = true
free_step m (Union bs) = list_all (λ b. b) bs
free_step m (Tuple bs) = list_all (λ b. b) bs
free_step m (Nominal k bs) = not (nat_eq k m) && list_all (λ b. b) bs
free_step m (Var _) = false

-- neither a variable nor the nominal type m stands in it
abbrev pub is_free_of : ℕ → Ty → Bool
is_free_of m = fold-Ty Bool (free_step m)

abbrev pub placed_step : ℕ → Ty-F (Ty × Bool) → Bool
placed_step m Any = true
placed_step m (Union es) = list_all (λ e. is_free_of m e.0) es
placed_step m (Tuple es) = list_all (λ e. is_free_of m e.0) es
placed_step m (Nominal _ es) = list_all (λ e. e.1) es
placed_step m (Var _) = true

-- neither a variable nor the nominal type m stands in a union or a tuple
abbrev pub is_placed : ℕ → Ty → Bool
is_placed m = para-Ty Bool (placed_step m)

abbrev pub arguments_step : ℕ → Ty-F (Ty × Bool) → Bool
arguments_step m Any = true
arguments_step m (Union es) = list_all (λ e. e.1) es
arguments_step m (Tuple es) = list_all (λ e. e.1) es
arguments_step m (Nominal _ es) = list_all (λ e. is_placed m e.0) es
arguments_step m (Var _) = true

-- neither stands in a union or a tuple under an argument of a nominal type
abbrev pub is_placed_field : ℕ → Ty → Bool
is_placed_field m = para-Ty Bool (arguments_step m)

-- the ancestors, with their arguments over the parameters
abbrev pub ancestors : List Decl → Decl → List Ancestor
ancestors ds d = line_above (lines_after [] ds) (out-Ty d.parent)

-- the types whose size counts: those in it, and its ancestors
abbrev pub sized_types : List Decl → Decl → List Ty
sized_types ds d = types_of d ++ map (λ a. V.Nominal a.name a.args) (ancestors ds d)

abbrev pub AllWithinLimits : List Ty → Type 0
AllWithinLimits [] = Unit {0}
AllWithinLimits (t ∷ ts) = IsWithinLimits t × AllWithinLimits ts

-- an argument of a nominal type: of which type, at which place, and what stands there
pub record Given : Type 0 where
  pub of : ℕ
  pub place : ℕ
  pub ty : Ty

abbrev pub given_from : ℕ → ℕ → List Ty → List Given
given_from k i [] = []
given_from k i (t ∷ ts) = record { of = k; place = i; ty = t } ∷ given_from k (i + 1) ts

abbrev pub given_step : Ty-F (Ty × List Given) → List Given
given_step Any = []
given_step (Union es) = flat_map (λ e. e.1) es
given_step (Tuple es) = flat_map (λ e. e.1) es
given_step (Nominal k es) = given_from k 0 (map (λ e. e.0) es) ++ flat_map (λ e. e.1) es
given_step (Var _) = []

-- all arguments in a type
abbrev pub given_in : Ty → List Given
given_in = para-Ty (List Given) given_step

-- between the bounds
abbrev pub Between : Table → Bound → Ty → Type 0
Between n b t = Below n opaque b.low t × Below n opaque t b.high

-- THE REFUSALS, in their order.

-- its name is that of an earlier type
abbrev pub DuplicateType : List Decl → Decl → Type 0
DuplicateType ds d = Contains (map (λ e. e.name) ds) d.name

-- a type in it is not declared, and is not the new struct itself in a field
abbrev pub is_known_decl : List Decl → Decl → Bool
is_known_decl ds d =
    list_all (is_known (length ds)) (bound_types d.params) && is_known (length ds) d.parent && list_all (is_known (length ds + own d.kind)) (field_types d.fields)

abbrev pub UnknownType : List Decl → Decl → Type 0
UnknownType ds d = is_known_decl ds d ≡ false

-- a nominal type in it has another number of arguments than declared
abbrev pub WrongParameterCount : List Decl → Decl → Type 0
WrongParameterCount ds d = list_all (is_counted (ds ++ d ∷ [])) (types_of d) ≡ false

-- its parent is neither `Any` nor abstract
abbrev pub SuperNotAbstract : List Decl → Decl → Type 0
SuperNotAbstract ds d = is_abstract_parent ds (out-Ty d.parent) ≡ false

-- a variable stands in a union or tuple inside the parent, or in a bound; or a variable or the new type itself stands in a
-- union or tuple under an argument in a field
abbrev pub is_placed_decl : List Decl → Decl → Bool
is_placed_decl ds d = list_all is_closed (bound_types d.params) && is_placed (length ds) d.parent && list_all (is_placed_field (length ds)) (field_types d.fields)

abbrev pub VariablePlace : List Decl → Decl → Type 0
VariablePlace ds d = is_placed_decl ds d ≡ false

-- each normal form of it has more than 1,024 nodes
abbrev pub HasLargeForm : Table → Ty → Type 0
HasLargeForm n t = (u : Ty) → IsNormalForm n t u → MOST_TYPE_NODES < nodes u

-- a bound, or an argument without variables, has a normal form that is too large
abbrev pub FormLimit : List Decl → Decl → Type 0
FormLimit ds d =
    ((t : Ty) × Contains (bound_types d.params) t × HasLargeForm (table_with ds d) t)
    ⊎ ((a : Given) × Contains (flat_map given_in (types_of d)) a × IsTrue (is_closed a.ty) × HasLargeForm (table_with ds d) a.ty)

-- a type in it or an ancestor is too large, as written or as kept, or a normal form is that is kept or stands in one
abbrev pub TypeLimit : List Decl → Decl → Type 0
TypeLimit ds d =
    (AllWithinLimits (sized_types ds d) → ⊥)
    ⊎ FormLimit ds d
    ⊎ ((e : Decl) × IsKept (table_with ds d) d e × (AllWithinLimits (sized_types ds e) → ⊥))

-- a low bound that is not below its high bound
abbrev pub BoundsCrossed : List Decl → Decl → Type 0
BoundsCrossed ds d = (b : Bound) × Contains d.params b × (Below (table_with ds d) opaque b.low b.high → ⊥)

-- an argument without variables outside the declared bound
abbrev pub BoundBroken : List Decl → Decl → Type 0
BoundBroken ds d =
    (a : Given) × Contains (flat_map given_in (types_of d)) a × IsTrue (is_closed a.ty)
    × (Between (table_with ds d) (get_or (params_of (slice_get (ds ++ d ∷ []) a.of)) a.place free) a.ty → ⊥)

-- more than 1,024 declared types (beside the eight built-in ones), 8 parameters, 64 fields or 64 ancestors
abbrev pub TooMany : List Decl → Decl → Type 0
TooMany ds d = (MOST_DECLARED_TYPES + BUILTIN_TYPES ≤ length ds) ⊎ (MOST_TYPE_PARAMETERS < length d.params) ⊎ (MOST_FIELDS < length d.fields) ⊎ (MOST_ANCESTORS < length (ancestors ds d))

-- two fields of one name
abbrev pub DuplicateField : Decl → Type 0
DuplicateField d =
    let names = map (λ f. f.name) d.fields in
    (i : ℕ) × (j : ℕ) × (i < j) × (j < length names) × (get_or names i [] ≡ get_or names j [])

-- nothing refuses it
pub record IsAllowed (ds : List Decl) (d : Decl) : Type 0 where
  pub fresh : DuplicateType ds d → ⊥
  pub known : UnknownType ds d → ⊥
  pub counted : WrongParameterCount ds d → ⊥
  pub abstract : SuperNotAbstract ds d → ⊥
  pub placed : VariablePlace ds d → ⊥
  pub small : TypeLimit ds d → ⊥
  pub ordered : BoundsCrossed ds d → ⊥
  pub within : BoundBroken ds d → ⊥
  pub few : TooMany ds d → ⊥
  pub distinct : DuplicateField d → ⊥

-- each variable in it is one of its parameters
abbrev pub HasOwnVariables : Decl → Type 0
HasOwnVariables d = IsTrue (list_all (λ v. nat_lt v (length d.params)) (flat_map vars_in (types_of d)))

-- it may be added as it stands: nothing refuses it, and its bounds and arguments without variables are normal forms
pub record IsReady (ds : List Decl) (d : Decl) : Type 0 where
  pub variables : HasOwnVariables d
  pub allowed : IsAllowed ds d
  pub normal : IsKept (table_with ds d) d d

-- the valid lists of declarations: the built-in ones, and then each ready after those before it
pub data Declared : List Decl → Type 0 where
  builtin : Declared builtin_types
  added : (ds : List Decl) (d : Decl) → Declared ds → IsReady ds d → Declared (ds ++ d ∷ [])
