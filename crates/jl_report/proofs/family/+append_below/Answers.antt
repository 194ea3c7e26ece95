use Rattle.std.proofs.Common.{arith}
use Rattle.jl_report.proofs.FamilyLemmas.{children_written}
use Rattle.jl_report.proofs.family.+append_below.Goals as goal

pub returns : goal.returns
returns t c =
    children_written c.args.family.now.outputs.items c.args.family.now.children.items c.args.generations c.args.task
    c.args.out.now c.append.new.self c.loop-child.out c.output.result.now c.children-child-items.result.now c.loop-child.child-index (omega arith)
    c.in_ok-append.ensures c.output.ensures c.children-child-items.ensures c.loop-child-test.false c.loop-child.invariant
