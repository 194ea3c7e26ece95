use Rattle.std.proofs.Common.{sym, subst}
use Rattle.jl_program.specs.Valid.{IsValid}
use Rattle.store_tests.proofs.ValidLemmas.{crossed_valid}
use Rattle.store_tests.proofs.programs.ready_crossed.Goals as goal

pub make-requires : goal.make-requires
make-requires c = subst IsValid (sym c.in_ok-program.ensures) crossed_valid
