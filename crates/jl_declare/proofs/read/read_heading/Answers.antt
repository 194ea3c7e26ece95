use Rattle.std.proofs.Common.{◌∙◌}
use Rattle.jl_declare.proofs.StepLemmas.{heading_is}
use Rattle.jl_declare.proofs.read.read_heading.Goals as goal

pub returns : goal.returns
returns c =
    heading_is c.args.decls.now c.within-around.result.decls.now c.args.kind c.args.header.now c.within-around.result.first c.in_ok-vars.vars
    c.no_reading-reading.result c.bind_first.new.state c.read_option.new.reading c.as_slice.result.now c.in_ok-params.params c.in_ok-parent.parent c.in_ok-copy.field-0 c.empty.result
    c.within-around.ensures.decls c.within-around.ensures.first c.no_reading-reading.ensures c.as_slice.ensures c.in_ok-vars.ensures (c.in_ok-params.ensures ∙ c.as_slice-2.ensures)
    c.in_ok-parent.ensures c.in_ok-copy.ensures c.empty.ensures
