use Rattle.std.proofs.Common.{List, ◌++◌, take}
use Rattle.jl_model.specs.declared.ty.Ty.{Ty}
use Rattle.jl_ambig.specs.Probes.{AreFirst}
use Rattle.jl_ambig.proofs.probing.add_all.Given as goal

abbrev pub invariant-loop-ty : goal.invariant-loop-ty
invariant-loop-ty l = (all : List Ty) → AreFirst all l.fn.types.items → AreFirst (all ++ take l.ty-index l.more) l.types.items
