use Rattle.std.proofs.Common.{◌∙◌}
use Rattle.jl_written.specs.Reads.{typed}
use Rattle.jl_reflect.proofs.TextSteps.{means_found}
use Rattle.jl_reflect.proofs.type_text.read_meaning.Goals as goal

pub returns : goal.returns
returns c =
    means_found c.args.table.now c.top-around.result.decls.now c.args.text.now c.top-around.result.first c.no_reading-state.result (typed c.in_ok-ty.ty c.read_alone.new.state)
    c.in_ok-ty.ensures (c.top-around.ensures.decls ∙ c.all-all.ensures ∙ c.in_ok-decls.ensures) c.top-around.ensures.first c.no_reading-state.ensures c.plain_type.result c.plain_type.ensures
