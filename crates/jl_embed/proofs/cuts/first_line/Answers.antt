use Rattle.jl_embed.proofs.CutLemmas.{lines_one, lines_more, cut_shorter}
use Rattle.jl_embed.proofs.cuts.first_line.Goals as goal

pub returns-in-Some-clause-lines : goal.returns-in-Some-clause-lines
returns-in-Some-clause-lines c = lines_more c.args.text.now c.in-Some.line.now c.in-Some.after.now c.requires c.in-Some.ensures

pub returns-in-Some-clause-shorter : goal.returns-in-Some-clause-shorter
returns-in-Some-clause-shorter c = cut_shorter 10 c.args.text.now c.in-Some.line.now c.in-Some.after.now c.in-Some.ensures

pub returns-in-None-clause-lines : goal.returns-in-None-clause-lines
returns-in-None-clause-lines c = lines_one c.args.text.now c.requires c.in-None.ensures
