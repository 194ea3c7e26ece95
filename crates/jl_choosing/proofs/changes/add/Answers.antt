use Rattle.std.proofs.Common.{◌∙◌, sym, subst, []}
use Rattle.jl_choosing.specs.ByFunction.{AreBefore}
use Rattle.jl_choosing.proofs.Slices.{get_same}
use Rattle.jl_choosing.proofs.changes.add.Goals as goal

pub push-requires : goal.push-requires
push-requires c =
    subst (AreBefore c.args.def.world) (sym (c.index_mut.ensures.value ∙ get_same c.args.methods.now.items c.args.function c.index_mut.result.now [] c.requires.function)) c.requires.later
