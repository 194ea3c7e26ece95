use Rattle.std.proofs.Common.{List, ◌++◌, take}
use Rattle.std.specs.List.{flat_map}
use Rattle.jl_model.specs.declared.ty.Key.{Key}
use Rattle.jl_model.specs.declared.ty.Ty.{Ty}
use Rattle.jl_calculus.specs.Ranges.{keys_of}
use Rattle.jl_ambig.specs.Probes.{AreFirst}
use Rattle.jl_ambig.proofs.probing.add_keys.Given as goal

abbrev pub invariant-loop-event : goal.invariant-loop-event
invariant-loop-event l = (all : List Ty) → AreFirst all l.fn.types.items → AreFirst (all ++ flat_map (λ (k : Key). k.types) (keys_of (take l.event-index l.events))) l.types.items
