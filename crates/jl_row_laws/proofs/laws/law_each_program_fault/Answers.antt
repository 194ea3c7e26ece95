use Rattle.jl_row_laws.proofs.ScriptRows.{setting_of, each_only_of, each_first_of, each_none_of}
use Rattle.jl_row_laws.proofs.laws.law_each_program_fault.Goals as goal

pub returns-clause-only : goal.returns-clause-only
returns-clause-only c = each_only_of

pub returns-clause-first : goal.returns-clause-first
returns-clause-first c = each_first_of

pub returns-clause-none : goal.returns-clause-none
returns-clause-none c = each_none_of

pub returns-clause-setting : goal.returns-clause-setting
returns-clause-setting c = setting_of
