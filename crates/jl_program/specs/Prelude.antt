-- The prelude: twelve functions and their fourteen operations, whose definitions make the worlds 1 to 14.
use Rattle.std.specs.Prelude.{ℕ, ◌+◌, codes, List, [], ◌∷◌, map, length, Option, None, Some, slice_get}
use Rattle.jl_model.specs.declared.builtin.TheConstants.{INT64, BOOL}
use Rattle.jl_model.specs.declared.ty.Ty.{Ty}
use Rattle.jl_model.specs.declared.ty.Written.{Written}
use Rattle.jl_model.specs.Ancestors.{named}
use Rattle.jl_program.specs.declared.prelude.TheConstants.{PLUS, MINUS, TIMES, DIV, REM, EQUAL, NOT_EQUAL, LESS, LESS_EQUAL, GREATER, GREATER_EQUAL, NOT, PRELUDE_SITES}
use Rattle.jl_program.specs.declared.prelude.Operation.{Operation}
use Rattle.jl_program.specs.declared.prelude.Operation.TheVariants as O
use Rattle.jl_program.specs.declared.prelude.Shape.{Shape}
use Rattle.jl_program.specs.declared.prelude.Shape.TheVariants.{Integer, Integers, Truth, Truths}
use Rattle.jl_program.specs.declared.tree.Site.{Site}
use Rattle.jl_program.specs.declared.tree.Expr.TheVariants as E

-- the names of the functions, by their numbers
abbrev pub prelude_functions : List (List ℕ)
prelude_functions =
    codes "+" ∷ codes "-" ∷ codes "*" ∷ codes "div" ∷ codes "rem" ∷ codes "==" ∷ codes "!=" ∷ codes "<" ∷ codes "<="
    ∷ codes ">" ∷ codes ">=" ∷ codes "!" ∷ []

-- an operation, the number of the function of which it is a method, and its parameters
abbrev pub OperationRow : Type 0
OperationRow = Operation × ℕ × Shape

-- the operations by their sites
abbrev pub operations : List OperationRow
operations =
    (O.Add, PLUS, Integers)
    ∷ (O.Subtract, MINUS, Integers)
    ∷ (O.Multiply, TIMES, Integers)
    ∷ (O.Divide, DIV, Integers)
    ∷ (O.Remainder, REM, Integers)
    ∷ (O.Negate, MINUS, Integer)
    ∷ (O.Equal, EQUAL, Integers)
    ∷ (O.NotEqual, NOT_EQUAL, Integers)
    ∷ (O.Less, LESS, Integers)
    ∷ (O.LessEqual, LESS_EQUAL, Integers)
    ∷ (O.Greater, GREATER, Integers)
    ∷ (O.GreaterEqual, GREATER_EQUAL, Integers)
    ∷ (O.Not, NOT, Truth)
    ∷ (O.EqualTruths, EQUAL, Truths)
    ∷ []

abbrev pub operation_in : Option OperationRow → Option Operation
operation_in None = None
operation_in (Some (operation, function, shape)) = Some operation

-- the operation of a site
abbrev pub operation_of : ℕ → Option Operation
operation_of site = operation_in (slice_get operations site)

-- the type of 64-bit integers and the type of truth values
abbrev pub int64 : Ty
int64 = named INT64

abbrev pub bool : Ty
bool = named BOOL

-- a signature without variables
abbrev pub plain : List Ty → Written
plain ts = record { vars = []; parts = ts }

-- a site whose meaning is built in
abbrev pub builtin_site : ℕ → List Ty → Site
builtin_site f ts = record { function = f; sig = plain ts; body = E.Nothing }

-- two integers
abbrev pub two : List Ty
two = int64 ∷ int64 ∷ []

-- the types of the parameters
abbrev pub shape_types : Shape → List Ty
shape_types Integer = int64 ∷ []
shape_types Integers = two
shape_types Truth = bool ∷ []
shape_types Truths = bool ∷ bool ∷ []

abbrev pub site_of_row : OperationRow → Site
site_of_row (operation, function, shape) = builtin_site function (shape_types shape)

-- the sites of the operations
abbrev pub prelude_sites : List Site
prelude_sites = map site_of_row operations

abbrev pub sites_from : ℕ → List OperationRow → List ℕ
sites_from i [] = []
sites_from i (r ∷ rs) = i ∷ sites_from (i + 1) rs

-- the numbers of these sites, in the order of their definitions
abbrev pub prelude_numbers : List ℕ
prelude_numbers = sites_from 0 operations

-- how many sites the prelude has
abbrev pub prelude_count : ℕ
prelude_count = PRELUDE_SITES
