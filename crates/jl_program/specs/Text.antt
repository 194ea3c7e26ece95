-- The texts of types, values and outcomes.
use Rattle.std.specs.Prelude.{ℕ, Bool, true, false, codes, decimal, List, [], ◌∷◌, ◌++◌, map, get_or}
use Rattle.std.specs.Fmt.{signed_decimal}
use Rattle.jl_model.specs.declared.limits.TheConstants.{MOST_OPEN_CALLS, MOST_WORLDS, MOST_TASKS}
use Rattle.jl_model.specs.declared.ty.Ty.{Ty}
use Rattle.jl_model.specs.declared.ty.Ty.TheOpen.{Ty-F, Any, Union, Tuple, Nominal, Var}
use Rattle.jl_model.specs.declared.ty.Ty.TheFolds.{fold-Ty}
use Rattle.jl_model.specs.declared.ty.Decl.{Decl}
use Rattle.jl_model.specs.Ancestors.{builtin_types}
use Rattle.jl_program.specs.declared.datum.Datum.{Datum}
use Rattle.jl_program.specs.declared.datum.Datum.TheOpen.{Datum-F}
use Rattle.jl_program.specs.declared.datum.Datum.TheOpen as D
use Rattle.jl_program.specs.declared.datum.Datum.TheFolds.{fold-Datum}
use Rattle.jl_program.specs.declared.value.Value.{Value}
use Rattle.jl_program.specs.declared.fault.Fault.{Fault}
use Rattle.jl_program.specs.declared.fault.Fault.TheVariants as F
use Rattle.jl_program.specs.declared.tree.Program.{Program}
use Rattle.jl_program.specs.Meaning.{datum}

-- texts after the first, each with ", " before it
abbrev pub joined_more : List (List ℕ) → List ℕ
joined_more [] = []
joined_more (t ∷ ts) = codes ", " ++ (t ++ joined_more ts)

-- texts with ", " between them
abbrev pub joined : List (List ℕ) → List ℕ
joined [] = []
joined (t ∷ ts) = t ++ joined_more ts

-- the name of each type of a table
abbrev pub type_names : Program → List (List ℕ)
type_names P = map (λ (d : Decl). d.name) (builtin_types ++ P.decls)

abbrev pub type_name : Program → ℕ → List ℕ
type_name P n = get_or (type_names P) n []

abbrev pub function_name : Program → ℕ → List ℕ
function_name P f = get_or P.functions f []

abbrev pub in_braces : List (List ℕ) → List ℕ
in_braces ts = codes "{" ++ (joined ts ++ codes "}")

abbrev pub arguments : List (List ℕ) → List ℕ
arguments [] = []
arguments (t ∷ ts) = in_braces (t ∷ ts)

abbrev pub type_step : Program → Ty-F (List ℕ) → List ℕ
type_step P Any = codes "Any"
type_step P (Union ts) = codes "Union" ++ in_braces ts
type_step P (Tuple ts) = codes "Tuple" ++ in_braces ts
type_step P (Nominal n ts) = type_name P n ++ arguments ts
type_step P (Var v) = codes "_"

-- the text of a type
abbrev pub type_text : Program → Ty → List ℕ
type_text P = fold-Ty (List ℕ) (type_step P)

abbrev pub in_parentheses : List (List ℕ) → List ℕ
in_parentheses ts = codes "(" ++ (joined ts ++ codes ")")

abbrev pub tuple_text : List (List ℕ) → List ℕ
tuple_text (t ∷ []) = codes "(" ++ (t ++ codes ",)")
tuple_text ts = in_parentheses ts

abbrev pub bool_text : Bool → List ℕ
bool_text true = codes "true"
bool_text false = codes "false"

abbrev pub datum_step : Program → Datum-F (List ℕ) → List ℕ
datum_step P (D.Int n) = signed_decimal n
datum_step P (D.Bool b) = bool_text b
datum_step P D.Nothing = codes "nothing"
datum_step P (D.Task n) = codes "Task(" ++ (decimal n ++ codes ")")
datum_step P (D.Tuple t ts) = tuple_text ts
datum_step P (D.Struct t ts) = type_text P t ++ in_parentheses ts

abbrev pub datum_text : Program → Datum → List ℕ
datum_text P = fold-Datum (List ℕ) (datum_step P)

-- the text of a value
abbrev pub value_text : Program → Value → List ℕ
value_text P v = datum_text P (datum v)

-- the types of arguments, as `(::Int64, ::Bool)`
abbrev pub types_text : Program → List Ty → List ℕ
types_text P ts = in_parentheses (map (λ t. codes "::" ++ type_text P t) ts)

-- the text of a fault
abbrev pub fault_text : Program → Fault → List ℕ
fault_text P (F.NoMethod f ts w) =
    codes "MethodError: no method matching " ++ (function_name P f ++ (types_text P ts ++ (codes " in world " ++ decimal w)))
fault_text P (F.Ambiguous f ts a b) =
    codes "MethodError: " ++ (function_name P f ++ (types_text P ts ++ (codes " is ambiguous between definitions " ++ (decimal a ++ (codes " and " ++ decimal b)))))
fault_text P (F.NoConstructor t ts) = codes "MethodError: no method matching " ++ (type_text P t ++ types_text P ts)
fault_text P F.DivideError = codes "DivideError: integer division error"
fault_text P (F.FieldType t name got) =
    codes "TypeError: field " ++ (name ++ (codes " of " ++ (type_text P t ++ (codes " got " ++ type_text P got))))
fault_text P (F.BadParameter t) = codes "TypeError: " ++ (type_text P t ++ codes " breaks a declared bound")
fault_text P (F.NoField t name) = codes "FieldError: " ++ (type_text P t ++ (codes " has no field " ++ name))
fault_text P (F.NoIndex t n) = codes "BoundsError: " ++ (type_text P t ++ (codes " has no part " ++ decimal n))
fault_text P (F.NotBool t) = codes "TypeError: non-boolean (" ++ (type_text P t ++ codes ") used in boolean context")
fault_text P (F.NotTask t) = codes "NotTask: " ++ type_text P t
fault_text P (F.TaskFailed n) = codes "TaskFailedException: task " ++ decimal n
fault_text P (F.NoSuchMethod f) = codes "NoSuchMethod: " ++ function_name P f
fault_text P (F.FuelSpent n) = codes "FuelSpent: " ++ (decimal n ++ codes " calls")
fault_text P F.StackLimit = codes "StackOverflowError: " ++ (decimal MOST_OPEN_CALLS ++ codes " open calls")
fault_text P F.WorldLimit = codes "WorldLimit: " ++ (decimal MOST_WORLDS ++ codes " worlds")
fault_text P F.TaskLimit = codes "TaskLimit: " ++ (decimal MOST_TASKS ++ codes " tasks")
fault_text P F.TypeLimit = codes "TypeLimit"
fault_text P F.ValueLimit = codes "ValueLimit"

-- the line that tells a fault
abbrev pub error_line : Program → Fault → List ℕ
error_line P fault = codes "ERROR: " ++ (fault_text P fault ++ codes "\n")
