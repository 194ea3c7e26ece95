use Rattle.jl_row_laws.proofs.ExampleRows.{good_rows, duplicate_row, built_in_row, unknown_row, parameters_row, refused_row, parameters_refused}
use Rattle.jl_row_laws.proofs.laws.law_declared_examples.Goals as goal

pub returns-clause-none : goal.returns-clause-none
returns-clause-none c = good_rows

pub returns-clause-two_types : goal.returns-clause-two_types
returns-clause-two_types c = duplicate_row

pub returns-clause-built_in : goal.returns-clause-built_in
returns-clause-built_in c = built_in_row

pub returns-clause-unknown : goal.returns-clause-unknown
returns-clause-unknown c = unknown_row

pub returns-clause-parameters : goal.returns-clause-parameters
returns-clause-parameters c = parameters_row

pub returns-clause-refused : goal.returns-clause-refused
returns-clause-refused c = refused_row

pub returns-clause-many : goal.returns-clause-many
returns-clause-many c = parameters_refused
