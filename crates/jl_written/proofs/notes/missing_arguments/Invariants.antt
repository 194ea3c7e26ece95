use Rattle.std.proofs.Common.{◌≡◌, drop}
use Rattle.jl_written.specs.Reads.{prepend_types, missing_arguments}
use Rattle.jl_written.proofs.notes.missing_arguments.Given as goal

abbrev pub invariant-loop-bound : goal.invariant-loop-bound
invariant-loop-bound l = prepend_types l.tys (missing_arguments (drop l.bound-index l.bounds) l.inside l.state) ≡ prepend_types l.initial.tys (missing_arguments l.bounds l.inside l.initial.state)
