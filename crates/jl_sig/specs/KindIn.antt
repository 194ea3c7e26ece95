-- The kinds of variables that the code has.
use Rattle.jl_model.specs.Kinds as model
use Rattle.jl_model.specs.Kinds.{unused, once, diagonal, bound}
use Rattle.jl_sig.specs.declared.kind.Kind.{Kind}
use Rattle.jl_sig.specs.declared.kind.Kind.TheVariants.{Unused, Once, Diagonal, Bound}

abbrev pub kind_in : Kind → model.Kind
kind_in k = elim k [ Unused ↦ unused | Once ↦ once | Diagonal ↦ diagonal | Bound ↦ bound ]
