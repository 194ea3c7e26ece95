use Rattle.std.proofs.Common.{List, drop}
use Rattle.jl_model.specs.declared.ty.Ty.{Ty}
use Rattle.jl_ambig.specs.Probes.{plain_structs, AreFirst}
use Rattle.jl_ambig.proofs.TypeLemmas.{IsUpTo}
use Rattle.jl_ambig.proofs.probing.add_structs.Given as goal

abbrev pub invariant-loop-number : goal.invariant-loop-number
invariant-loop-number l = (all : List Ty) → AreFirst all l.fn.types.items → IsUpTo all l.types.items (plain_structs l.number (drop l.number l.table)) (plain_structs 8 (drop 8 l.table))
