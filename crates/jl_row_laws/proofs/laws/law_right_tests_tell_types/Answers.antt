use Rattle.jl_row_laws.proofs.RightTests.{tell_types}
use Rattle.jl_row_laws.proofs.laws.law_right_tests_tell_types.Goals as goal

pub returns : goal.returns
returns c = tell_types
