use Rattle.std.proofs.Common.{subst, List, ◌++◌, ◌∷◌, [], OnOk}
use Rattle.jl_model.specs.declared.ty.Ty.{Ty}
use Rattle.jl_model.specs.declared.ty.Ty.TheViews as V
use Rattle.jl_ambig.specs.Probes.{AreFirst}
use Rattle.jl_ambig.proofs.probing.add_named.Goals as goal

pub returns : goal.returns
returns c =
    subst (λ ts. OnOk c.add.result ((all : List Ty) → AreFirst all c.args.types.now.items → AreFirst (all ++ V.Nominal c.args.number ts ∷ []) c.add.new.types.items)) c.empty.ensures c.add.ensures
