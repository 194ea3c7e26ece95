use Rattle.std.proofs.Common.{codes, decimal, ◌++◌}
use Rattle.jl_work.proofs.LineLemmas.{after_one}
use Rattle.jl_work.specs.Told.{unexamined_line}
use Rattle.jl_work.proofs.pair_lines.append_unexamined.Goals as goal

pub returns : goal.returns
unfolding unexamined_line
returns c =
    after_one c.append_with.result c.args.out.now c.append_with.new.out c.append.new.self (codes "definition ") (decimal c.args.definition ++ codes " not examined\n") c.in_ok-append.ensures c.append_with.ensures
