use Rattle.jl_report.proofs.FamilyLemmas.{all_written}
use Rattle.jl_report.proofs.family.append_outputs.Goals as goal

pub returns : goal.returns
returns c =
    all_written c.append_below.result c.args.out.now c.append_below.new.out c.args.events.now c.in_ok-family.family.outputs.items c.in_ok-family.family.children.items
    c.count.result c.in_ok-family.ensures c.count.ensures c.append_below.ensures
