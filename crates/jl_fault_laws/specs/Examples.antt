-- Small scripts, of which the rows are computed. Each is `f(x) = 1` and a line after it.
use Rattle.std.specs.Prelude.{ℕ, zero, suc, ◌+◌, pos, codes, List, [], ◌∷◌, ◌++◌, map, None}
use Rattle.jl_model.specs.declared.ty.DeclKind.TheVariants.{Struct}
use Rattle.jl_model.specs.declared.ty.Ty.TheVariants as W
use Rattle.jl_model.specs.Ancestors.{builtin_types}
use Rattle.jl_model.specs.Rows.{free}
use Rattle.jl_program.specs.Prelude.{prelude_functions}
use Rattle.jl_typeread.specs.declared.tree.ArgText.TheViews as V
use Rattle.jl_typeread.specs.declared.tree.TypeText.TheVariants as TV
use Rattle.jl_typeread.specs.declared.tree.VarText.TheVariants as VV
use Rattle.jl_grammar.specs.declared.tree.Callee.TheVariants as C
use Rattle.jl_grammar.specs.declared.tree.Eval.TheViews as E
use Rattle.jl_grammar.specs.declared.tree.Expr.{Expr}
use Rattle.jl_grammar.specs.declared.tree.Expr.TheVariants as X
use Rattle.jl_grammar.specs.declared.tree.Head.{Head}
use Rattle.jl_grammar.specs.declared.tree.Item.{Item}
use Rattle.jl_grammar.specs.declared.tree.Item.TheVariants as N
use Rattle.jl_grammar.specs.declared.tree.Name.{Name}
use Rattle.jl_grammar.specs.declared.tree.Param.TheVariants as P
use Rattle.jl_written.specs.declared.fault.Fault.{Fault}
use Rattle.jl_written.specs.declared.fault.StaticKind.{StaticKind}
use Rattle.jl_resolve_forms.specs.declared.known.Known.{Known}

-- a name of one letter
abbrev pub name_at : ℕ → ℕ → Name
name_at at letter = record { at = at; bytes = letter ∷ [] }

abbrev pub f : ℕ
f = 102

abbrev pub g : ℕ
g = 103

abbrev pub S : ℕ
S = 83

abbrev pub R : ℕ
R = 82

abbrev pub T : ℕ
T = 84

abbrev pub x : ℕ
x = 120

abbrev pub y : ℕ
y = 121

abbrev pub one_at : ℕ → Expr
one_at at = X.Number at (pos 1)

-- `f(x) = 1` declares no type, and one function beside those of the prelude
abbrev pub known : Known
known = record { decls = builtin_types; functions = prelude_functions ++ (f ∷ []) ∷ []; methods = name_at 0 f ∷ []; types = [] }

abbrev pub head : Head
head = record { callee = C.Plain (name_at 0 f); params = P.Name (name_at 2 x) ∷ []; vars = [] }

-- behind it, `y = ` and an expression at 13
abbrev pub with_line : Expr → List Item
with_line e = N.Method (E.Short 0 head (one_at 7)) ∷ N.Bind (name_at 9 y) e ∷ []

-- `y = f(1)`
abbrev pub good : List Item
good = with_line (E.Call 13 (C.Plain (name_at 13 f)) (one_at 15 ∷ []))

-- `y = f(x)`: the parameter is not visible there
abbrev pub with_unknown_name : List Item
with_unknown_name = with_line (E.Call 13 (C.Plain (name_at 13 f)) (X.Name 15 (x ∷ []) ∷ []))

-- `y = g(1)`
abbrev pub with_unknown_function : List Item
with_unknown_function = with_line (E.Call 13 (C.Plain (name_at 13 g)) (one_at 15 ∷ []))

-- `y = f(1,1,1,1,1,1,1,1,1)`
abbrev pub with_many_arguments : List Item
with_many_arguments = with_line (E.Call 13 (C.Plain (name_at 13 f)) (map one_at (15 ∷ 17 ∷ 19 ∷ 21 ∷ 23 ∷ 25 ∷ 27 ∷ 29 ∷ 31 ∷ [])))

-- `y = 1 isa R`
abbrev pub with_unknown_type : List Item
with_unknown_type = with_line (E.Isa 13 (one_at 13) (TV.Name 19 (R ∷ [])))

-- `y = 1 isa (Int where {T, T})`
abbrev pub with_two_variables : List Item
with_two_variables = with_line (E.Isa 13 (one_at 13) (V.Paren 19 (TV.Name 20 (codes "Int")) (VV.Free 31 (T ∷ []) ∷ VV.Free 34 (T ∷ []) ∷ [])))

-- `y = Base.delete_method(which(div, Int))`
abbrev pub with_prelude_deletion : List Item
with_prelude_deletion = with_line (X.Delete 13 (record { at = 38; bytes = codes "div" }) (TV.Name 43 (codes "Int")))

-- `y = Base.delete_method(which(f, Int))`
abbrev pub with_deletion : List Item
with_deletion = with_line (X.Delete 13 (name_at 38 f) (TV.Name 41 (codes "Int")))

-- `y = f(1)`, and on a third line `f = 1`
abbrev pub with_function_name : List Item
with_function_name = good ++ N.Bind (name_at 18 f) (one_at 22) ∷ []

-- `y = f(1)`, and on a third line `y = 1`
abbrev pub with_two_bindings : List Item
with_two_bindings = good ++ N.Bind (name_at 18 y) (one_at 22) ∷ []

-- `y = f(1)`, and on a third line `div = 1`
abbrev pub with_built_in : List Item
with_built_in = good ++ N.Bind (record { at = 18; bytes = codes "div" }) (one_at 24) ∷ []

-- `struct S{T} end`, whose parameter is in no field, declares a type and no function
abbrev pub known_struct : Known
known_struct = record {
  decls = builtin_types ++ record { name = S ∷ []; kind = Struct; params = free ∷ []; parent = W.Any; fields = [] } ∷ [];
  functions = prelude_functions;
  methods = [];
  types = name_at 7 S ∷ [];
}

-- behind it, on a second line, `S()`
abbrev pub with_inferred : List Item
with_inferred =
    N.Struct (record { header = record { at = 0; name = name_at 7 S; params = VV.Free 9 (T ∷ []) ∷ []; parent = None }; fields = [] })
    ∷ N.Do (E.Call 16 (C.Plain (name_at 16 S)) []) ∷ []

-- `f(x) = 1` at this place
abbrev pub method_at : ℕ → Item
method_at at = N.Method (E.Short at (record { callee = C.Plain (name_at at f); params = P.Name (name_at (at + 2) x) ∷ []; vars = [] }) (one_at (at + 7)))

-- so many lines `f(x) = 1`, from this place on
abbrev pub lines : ℕ → ℕ → List Item
lines zero at = []
lines (suc n) at = method_at at ∷ lines n (at + 9)

abbrev pub fault : ℕ → StaticKind → Fault
fault at kind = record { at = at; kind = kind }
