-- The table of nominal types that declarations make: which types are structs, and each type's ancestors with their
-- arguments (Julia manual, Types: Abstract Types, Parametric Types).
use Rattle.std.specs.Prelude.{ℕ, ◌+◌, ◌≡◌, Bool, true, false, cond, nat_eq, codes, List, [], ◌∷◌, ◌++◌, map, length, Option, None, Some, get_or, slice_get}
use Rattle.jl_model.specs.declared.builtin.TheConstants.{NUMBER, REAL, INTEGER, SIGNED}
use Rattle.jl_model.specs.declared.ty.Ty.{Ty, out-Ty}
use Rattle.jl_model.specs.declared.ty.Ty.TheOpen.{Ty-F, Any, Union, Tuple, Nominal, Var}
use Rattle.jl_model.specs.declared.ty.Ty.TheViews as V
use Rattle.jl_model.specs.declared.ty.Ty.TheVariants as W
use Rattle.jl_model.specs.declared.ty.Bound.{Bound}
use Rattle.jl_model.specs.declared.ty.Decl.{Decl}
use Rattle.jl_model.specs.declared.ty.DeclKind.{DeclKind}
use Rattle.jl_model.specs.declared.ty.DeclKind.TheVariants.{Abstract, Struct}
use Rattle.jl_model.specs.Subtype.{Table, put, at}

-- a type or one of its ancestors, with its arguments over the parameters of that type
pub record Ancestor : Type 0 where
  pub name : ℕ
  pub args : List Ty

-- the variables of a list of bounds, from one on
abbrev pub vars_from : ℕ → List Bound → List Ty
vars_from i [] = []
vars_from i (b ∷ bs) = W.Var i ∷ vars_from (i + 1) bs

-- an ancestor of a parent, with the parent's arguments put in
abbrev pub put_under : List Ty → Ancestor → Ancestor
put_under ys a = record { name = a.name; args = map (put (at ys)) a.args }

-- the ancestors through a declared parent, where `lines` has the lines of the types before
abbrev pub line_above : List (List Ancestor) → Ty-F Ty → List Ancestor
line_above lines (Nominal p ys) = map (put_under ys) (get_or lines p [])
line_above lines _ = []

-- a type and its ancestors, the nearest first
abbrev pub line_of : List (List Ancestor) → Decl → List Ancestor
line_of lines d = record { name = length lines; args = vars_from 0 d.params } ∷ line_above lines (out-Ty d.parent)

-- the lines of declarations, each after the lines of those before it
abbrev pub lines_after : List (List Ancestor) → List Decl → List (List Ancestor)
lines_after lines [] = lines
lines_after lines (d ∷ ds) = lines_after (lines ++ line_of lines d ∷ []) ds

-- the arguments of the ancestor of this number
abbrev pub args_of : ℕ → List Ancestor → Option (List Ty)
args_of m [] = None
args_of m (a ∷ as_) = cond (nat_eq m a.name) (Some a.args) (args_of m as_)

-- the arguments of m over the parameters of n, where m is n or an ancestor of it
abbrev pub up_in : List Decl → ℕ → ℕ → Option (List Ty)
up_in ds n m = args_of m (get_or (lines_after [] ds) n [])

abbrev pub is_struct_kind : Option Decl → Bool
is_struct_kind None = false
is_struct_kind (Some d) = elim d.kind [ Abstract ↦ false | Struct ↦ true ]

-- the table of a list of declarations
unfoldable pub table_of : List Decl → Table
table_of ds = record { up = up_in ds; is_struct = λ k. is_struct_kind (slice_get ds k) }

-- a declaration without parameters and fields
abbrev pub plain_decl : List ℕ → DeclKind → Ty → Decl
plain_decl name kind parent = record { name = name; kind = kind; params = []; parent = parent; fields = [] }

-- a nominal type without arguments
abbrev pub named : ℕ → Ty
named n = V.Nominal n []

-- the eight built-in nominal types
abbrev pub builtin_types : List Decl
builtin_types =
    plain_decl (codes "Number") Abstract W.Any
    ∷ plain_decl (codes "Real") Abstract (named NUMBER)
    ∷ plain_decl (codes "Integer") Abstract (named REAL)
    ∷ plain_decl (codes "Signed") Abstract (named INTEGER)
    ∷ plain_decl (codes "Int64") Struct (named SIGNED)
    ∷ plain_decl (codes "Bool") Struct (named INTEGER)
    ∷ plain_decl (codes "Nothing") Struct W.Any
    ∷ plain_decl (codes "Task") Struct W.Any
    ∷ []
