use Rattle.std.proofs.Common.{◌∙◌, sym, subst, []}
use Rattle.jl_choosing.specs.ByFunction.{AreDelsBefore}
use Rattle.jl_choosing.proofs.Slices.{get_same}
use Rattle.jl_choosing.proofs.changes.add_deletion.Goals as goal

pub push-requires : goal.push-requires
push-requires c =
    subst (AreDelsBefore c.args.del.world) (sym (c.index_mut.ensures.value ∙ get_same c.args.deletions.now.items c.args.function c.index_mut.result.now [] c.requires.function)) c.requires.later
