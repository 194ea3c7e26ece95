use Rattle.jl_embed.proofs.CutLemmas.{cut_at, cut_not}
use Rattle.jl_embed.proofs.cuts.cut.Goals as goal

pub returns : goal.returns
returns c = cut_at c.args.mark c.args.text.now c.memchr.result c.in-Some.place c.split_at.result.0.now c.split_at.result.1.now c.memchr.ensures c.in-Some.is c.split_at.ensures.front c.split_at.ensures.back

pub returns-in_default : goal.returns-in_default
returns-in_default c = cut_not c.args.mark c.args.text.now c.memchr.result c.memchr.ensures c.in_default.is
