use Rattle.std.proofs.Common.{arith}
use Rattle.jl_frames.proofs.TopLemmas.{cut_is}
use Rattle.jl_frames.proofs.frames.Frames.cut.Goals as goal

pub returns : goal.returns
returns c =
    let a = c.self.inside in
    cut_is a.flat.items a.values.items a.slots.items c.truncate.new.self.items a.types.items a.text a.from a.scope a.text_from c.args.self.now c.args.slot c.self.view_is
    (grind (arith, c.if-most-self.false)) c.truncate.ensures.items
