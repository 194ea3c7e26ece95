use Rattle.jl_row_laws.proofs.ScriptRows.{rows_only_of, rows_first_of, rows_none_of}
use Rattle.jl_row_laws.proofs.laws.law_program_rows.Goals as goal

pub returns-clause-only : goal.returns-clause-only
returns-clause-only c = rows_only_of

pub returns-clause-first : goal.returns-clause-first
returns-clause-first c = rows_first_of

pub returns-clause-none : goal.returns-clause-none
returns-clause-none c = rows_none_of
