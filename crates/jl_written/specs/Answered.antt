-- Which of several static faults is answered: the one at the least place, of several there the one with the least number.
use Rattle.std.specs.Prelude.{ℕ, Bool, ◌||◌, ◌&&◌, nat_lt, nat_eq, if◌then◌else◌, Option, Some, None}
use Rattle.jl_written.specs.declared.fault.Fault.{Fault}
use Rattle.jl_written.specs.declared.fault.StaticKind.{StaticKind}
use Rattle.jl_written.specs.declared.fault.StaticKind.TheVariants as kind

-- the number of a fault in the table of the eleven static faults; those of a declaration and those of a signature, which never
-- stand at one place, are the fifth and the sixth
abbrev pub number_of : StaticKind → ℕ
number_of kind.UnknownName = 1
number_of kind.UnknownFunction = 2
number_of kind.UnknownType = 3
number_of kind.Rebound = 4
number_of kind.DuplicateType = 5
number_of kind.WrongParameterCount = 5
number_of kind.SuperNotAbstract = 5
number_of kind.VariablePlace = 5
number_of kind.TypeLimit = 5
number_of kind.BoundsCrossed = 5
number_of kind.BoundBroken = 5
number_of kind.TooMany = 5
number_of kind.DuplicateField = 5
number_of kind.UnusedVariable = 6
number_of kind.TooManyParameters = 6
number_of kind.TooManySites = 7
number_of kind.StaticParameterUse = 8
number_of kind.NameClash = 9
number_of kind.TooManyArguments = 10
number_of kind.BadType = 11

abbrev pub comes_before : Fault → Fault → Bool
comes_before f g = nat_lt f.at g.at || (nat_eq f.at g.at && nat_lt (number_of f.kind) (number_of g.kind))

-- the first of a fault that stands already, if one does, and a further one
abbrev pub first_of : Option Fault → Fault → Option Fault
first_of None f = Some f
first_of (Some g) f = if comes_before f g then Some f else Some g
