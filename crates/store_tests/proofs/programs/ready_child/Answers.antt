use Rattle.std.proofs.Common.{sym, subst}
use Rattle.jl_program.specs.Valid.{IsValid}
use Rattle.store_tests.proofs.ValidLemmas.{child_valid}
use Rattle.store_tests.proofs.programs.ready_child.Goals as goal

pub make-requires : goal.make-requires
make-requires c = subst IsValid (sym c.in_ok-program.ensures) child_valid
