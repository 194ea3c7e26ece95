use Rattle.std.proofs.Common.{arith}
use Rattle.jl_ambig.proofs.StandLemmas.{end_kept, end_found}
use Rattle.jl_ambig.proofs.beyond.find_end.Goals as goal

pub returns-in-Some-clause-end : goal.returns-in-Some-clause-end
returns-in-Some-clause-end c =
    end_found c.args.made.now.0 c.args.made.now.1 c.args.ends.now.items c.args.site c.in-Some.end c.index.result.now (omega (arith, c.requires.site, c.requires.ends.count)) c.index.ensures c.in-Some.is c.requires.ends

pub returns-clause-ends : goal.returns-clause-ends
returns-clause-ends c =
    end_kept c.args.made.now.0 c.args.made.now.1 c.args.ends.now.items c.keep_end.new.ends.items c.args.site c.in_ok-end.end (omega (arith, c.requires.site, c.requires.ends.count)) c.keep_end.ensures c.requires.ends c.in_ok-end.ensures
