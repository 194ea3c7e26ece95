use Rattle.std.proofs.Common.{sym, subst}
use Rattle.jl_program.specs.Valid.{IsValid}
use Rattle.store_tests.proofs.ValidLemmas.{late_valid}
use Rattle.store_tests.proofs.programs.ready_late.Goals as goal

pub make-requires : goal.make-requires
make-requires c = subst IsValid (sym c.in_ok-program.ensures) late_valid
