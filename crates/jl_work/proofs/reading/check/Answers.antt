use Rattle.jl_work.specs.Place.{static_line}
use Rattle.jl_work.proofs.ReadingLemmas.{formed, line_along, no_program_line}
use Rattle.jl_work.proofs.reading.check.Goals as goal

pub check_script-requires : goal.check_script-requires
check_script-requires c = formed c.args.bytes.now c.args.script.now c.requires

pub returns-in-Ok : goal.returns-in-Ok
returns-in-Ok c = (c.args.script.now, c.requires, c.in-Ok.ensures.means)

pub returns-in_ok-static_line-in-Err : goal.returns-in_ok-static_line-in-Err
returns-in_ok-static_line-in-Err c =
    line_along c.args.bytes.now (static_line c.args.bytes.now c.in-Err.fault) c.in_ok-static_line-in-Err.field-0 c.in_ok-static_line-in-Err.ensures.line
    (no_program_line c.args.bytes.now c.args.script.now c.in-Err.fault c.requires c.in-Err.ensures.means c.in_ok-static_line-in-Err.ensures.told)
