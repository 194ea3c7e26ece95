use Rattle.std.proofs.Common.{◌≡◌, ◌++◌, drop, map}
use Rattle.jl_program.specs.Prelude.{site_of_row}
use Rattle.store_tests.proofs.programs.make_prelude.Given as goal

abbrev pub invariant-loop-function : goal.invariant-loop-function
invariant-loop-function l = l.sites.items ++ map site_of_row (drop l.function-index l.function-items) ≡ map site_of_row l.function-items
