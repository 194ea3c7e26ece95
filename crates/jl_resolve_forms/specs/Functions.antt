-- What a called name is (Julia manual, Functions; Constructors).
use Rattle.std.specs.Prelude.{ℕ, ◌&&◌, if◌then◌else◌, nat_le, nat_eq, List, map, length, Option, Some, None, slice_get}
use Rattle.jl_model.specs.declared.builtin.TheConstants.{BUILTIN_TYPES}
use Rattle.jl_program.specs.declared.prelude.TheConstants.{PLUS, MINUS, TIMES, DIV, REM, EQUAL, NOT_EQUAL, LESS, LESS_EQUAL, GREATER, GREATER_EQUAL, NOT}
use Rattle.jl_model.specs.declared.ty.Decl.{Decl}
use Rattle.jl_model.specs.Ancestors.{is_struct_kind}
use Rattle.jl_model.specs.Valid.{params_of}
use Rattle.jl_program.specs.Prelude.{prelude_functions}
use Rattle.jl_token.specs.declared.token.Operator.{Operator}
use Rattle.jl_token.specs.declared.token.Operator.TheVariants as O
use Rattle.jl_grammar.specs.declared.tree.Callee.{Callee}
use Rattle.jl_grammar.specs.declared.tree.Callee.TheVariants as C
use Rattle.jl_grammar.specs.declared.tree.Name.{Name}
use Rattle.jl_written.specs.Meaning.{place_of}
use Rattle.jl_resolve_forms.specs.declared.known.Known.{Known}
use Rattle.jl_resolve_forms.specs.declared.known.Called.{Called}
use Rattle.jl_resolve_forms.specs.declared.known.Called.TheVariants as D
use Rattle.jl_resolve_forms.specs.declared.state.Scope.{Scope}
use Rattle.jl_resolve_forms.specs.Scopes.{slot_of}

-- the prelude's function of an operator; `÷` is `div` and `%` is `rem`
abbrev pub function_of_operator : Operator → Option ℕ
function_of_operator O.Plus = Some PLUS
function_of_operator O.Minus = Some MINUS
function_of_operator O.Times = Some TIMES
function_of_operator O.Divide = Some DIV
function_of_operator O.Remainder = Some REM
function_of_operator O.Equal = Some EQUAL
function_of_operator O.NotEqual = Some NOT_EQUAL
function_of_operator O.Less = Some LESS
function_of_operator O.LessEqual = Some LESS_EQUAL
function_of_operator O.Greater = Some GREATER
function_of_operator O.GreaterEqual = Some GREATER_EQUAL
function_of_operator O.Not = Some NOT
function_of_operator _ = None

-- where the name of a function stands; of an operator, where its `Base` does
abbrev pub place_of_callee : Callee → ℕ
place_of_callee (C.Plain n) = n.at
place_of_callee (C.Base at n) = n.at
place_of_callee (C.Operator at o) = at

-- a name that means something else here is no function
abbrev pub unless_taken : Option ℕ → Option ℕ → Option ℕ
unless_taken None o = o
unless_taken (Some _) o = None

-- the function of a name: one of the script or of the prelude, behind `Base` one of the prelude
unfoldable pub function_of : Known → Callee → Scope → Option ℕ
function_of k (C.Plain n) c = unless_taken (slot_of c.slots n.bytes) (place_of k.functions n.bytes)
function_of k (C.Base at n) c = place_of prelude_functions n.bytes
function_of k (C.Operator at o) c = function_of_operator o

-- the function of the script of a name: none of the prelude, and no visible variable
unfoldable pub own_function : Known → Name → Scope → Option ℕ
own_function k n c = unless_taken (slot_of c.slots n.bytes) (unless_taken (place_of prelude_functions n.bytes) (place_of k.functions n.bytes))

-- the declared struct of a name: a built-in type has no constructor
abbrev pub if_struct : List Decl → Option ℕ → Option ℕ
if_struct ds None = None
if_struct ds (Some p) = if nat_le BUILTIN_TYPES p && is_struct_kind (slice_get ds p) then Some p else None

unfoldable pub struct_named : Known → List ℕ → Scope → Option ℕ
struct_named k name c = unless_taken (slot_of c.slots name) (if_struct k.decls (place_of (map (λ (d : Decl). d.name) k.decls) name))

abbrev pub struct_of : Known → Callee → Scope → Option ℕ
struct_of k (C.Plain n) c = struct_named k n.bytes c
struct_of k (C.Base at n) c = None
struct_of k (C.Operator at o) c = None

-- a constructor is explicit where the struct has no parameters, and inferred otherwise
abbrev pub constructor : List Decl → ℕ → Called
constructor ds p = if nat_eq (length (params_of (slice_get ds p))) 0 then D.Bare p else D.Inferred p

abbrev pub callee_from : List Decl → Option ℕ → Option ℕ → Called
callee_from ds (Some p) f = constructor ds p
callee_from ds None (Some f) = D.Function f
callee_from ds None None = D.Unknown

unfoldable pub callee_of : Known → Callee → Scope → Called
callee_of k f c = callee_from k.decls (struct_of k f c) (function_of k f c)
