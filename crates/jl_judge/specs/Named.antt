-- The refusals of signatures by the names of the static faults.
use Rattle.std.specs.Prelude.{Option, None, Some}
use Rattle.jl_sig.specs.declared.fault.SigFault.{SigFault}
use Rattle.jl_sig.specs.declared.fault.SigFault.TheVariants as fault
use Rattle.jl_written.specs.declared.fault.StaticKind.{StaticKind}
use Rattle.jl_written.specs.declared.fault.StaticKind.TheVariants as kind

-- want of memory is none
abbrev pub kind_in : SigFault → Option StaticKind
kind_in fault.VariablePlace = Some kind.VariablePlace
kind_in fault.UnusedVariable = Some kind.UnusedVariable
kind_in fault.TooManyParameters = Some kind.TooManyParameters
kind_in fault.WrongParameterCount = Some kind.WrongParameterCount
kind_in fault.TypeLimit = Some kind.TypeLimit
kind_in fault.BoundsCrossed = Some kind.BoundsCrossed
kind_in fault.BoundBroken = Some kind.BoundBroken
kind_in fault.Memory = None
