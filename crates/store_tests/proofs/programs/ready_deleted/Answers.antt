use Rattle.std.proofs.Common.{◌∙◌, ap, sym, subst, [], ◌∷◌}
use Rattle.jl_program.specs.Valid.{IsValid}
use Rattle.store_tests.specs.Programs.{late_with, place_of}
use Rattle.store_tests.proofs.ValidLemmas.{deleted_valid}
use Rattle.store_tests.proofs.programs.ready_deleted.Goals as goal

pub make-requires : goal.make-requires
make-requires c =
    subst IsValid (sym (c.in_ok-program.ensures ∙ ap late_with (c.in_ok-deletes.ensures ∙ ap (λ ts. place_of 12 ts ∷ []) c.empty.ensures))) deleted_valid
