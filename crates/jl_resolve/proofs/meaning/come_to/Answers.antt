use Rattle.jl_declare.specs.Declarations.{declaring_of}
use Rattle.jl_resolve.proofs.ProgramLemmas.{valid}
use Rattle.jl_resolve.proofs.meaning.come_to.Goals as goal

pub returns-clause-valid : goal.returns-clause-valid
returns-clause-valid c =
    let r = c.in_ok-resolved.resolved in
    let told = c.in_ok-resolved.ensures in
    valid c.args.script.now (declaring_of c.in_ok-table.field-0) told.0 r.program r.fault c.in_ok-table.field-0.table c.in_ok-known.known c.as_slice-items.result.now
    c.as_slice-items.ensures c.in_ok-table.ensures.declared c.in_ok-table.ensures.table c.in_ok-known.ensures told.1 told.2 c.requires c.valid.ensures
