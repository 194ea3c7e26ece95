use Rattle.std.proofs.Common.{sym, subst}
use Rattle.jl_program.specs.declared.tree.Program.{Program}
use Rattle.jl_calculus.specs.ValidStart.{IsValidStart}
use Rattle.store_tests.specs.Starts.{first_start}
use Rattle.store_tests.proofs.StartLemmas.{deleted_start}
use Rattle.store_tests.proofs.runs.tell_deleted.Goals as goal

pub tell_of_key-told-requires-clause-start : goal.tell_of_key-told-requires-clause-start
tell_of_key-told-requires-clause-start c = subst (λ (P : Program). IsValidStart P first_start) (sym c.in_ok-ready.ensures) deleted_start
