use Rattle.jl_fault_laws.proofs.ExampleRows.{good_rows, name_row, function_row, arguments_row, type_row, variable_row, binding_row, deletion_row, no_tuple_row, shared_row, built_in_row, inferred_row, sites_row}
use Rattle.jl_fault_laws.proofs.laws.law_examples.Goals as goal

pub returns-clause-none : goal.returns-clause-none
returns-clause-none c = good_rows

pub returns-clause-name : goal.returns-clause-name
returns-clause-name c = name_row

pub returns-clause-function : goal.returns-clause-function
returns-clause-function c = function_row

pub returns-clause-arguments : goal.returns-clause-arguments
returns-clause-arguments c = arguments_row

pub returns-clause-binding : goal.returns-clause-binding
returns-clause-binding c = binding_row

pub returns-clause-built_in : goal.returns-clause-built_in
returns-clause-built_in c = built_in_row

pub returns-clause-type_ : goal.returns-clause-type_
returns-clause-type_ c = type_row

pub returns-clause-variable : goal.returns-clause-variable
returns-clause-variable c = variable_row

pub returns-clause-function_name : goal.returns-clause-function_name
returns-clause-function_name c = shared_row

pub returns-clause-deletion : goal.returns-clause-deletion
returns-clause-deletion c = deletion_row

pub returns-clause-no_tuple : goal.returns-clause-no_tuple
returns-clause-no_tuple c = no_tuple_row

pub returns-clause-inferred : goal.returns-clause-inferred
returns-clause-inferred c = inferred_row

pub returns-clause-sites : goal.returns-clause-sites
returns-clause-sites c = sites_row
