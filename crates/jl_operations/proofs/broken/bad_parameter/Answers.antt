use Rattle.std.specs.List.{flat_map}
use Rattle.jl_calculus.specs.Statics.{nominals_in}
use Rattle.jl_operations.proofs.BrokenLemmas.{named_fault, fault_named, some_broken}
use Rattle.jl_operations.proofs.broken.bad_parameter.Goals as goal

pub unreachable-requires : goal.unreachable-requires
unreachable-requires c = some_broken c.args.table.now (flat_map nominals_in c.args.types.now) c.in_ok-found.found c.in_ok-found.ensures c.in-None.is c.requires.broken

pub returns-clause-fault : goal.returns-clause-fault
returns-clause-fault c = named_fault c.args.table.now (flat_map nominals_in c.args.types.now) c.in_ok-found.found c.in-Some.ty c.in_ok-found.ensures c.in-Some.is

pub returns-clause-named : goal.returns-clause-named
returns-clause-named c = fault_named c.args.table.now (flat_map nominals_in c.args.types.now) c.in_ok-found.found c.in-Some.ty c.in_ok-found.ensures c.in-Some.is
