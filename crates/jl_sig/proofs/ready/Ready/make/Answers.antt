use Rattle.std.proofs.Common.{◌∙◌, ap, ◌++◌}
use Rattle.jl_model.specs.Ancestors.{builtin_types}
use Rattle.jl_sig.proofs.FieldSigLemmas.{small_structs}
use Rattle.jl_sig.proofs.ReadyLemmas.{valid_sigs, valid_places}
use Rattle.jl_sig.proofs.ready.Ready.make.Goals as goal

pub site_sigs-requires : goal.site_sigs-requires
site_sigs-requires c = valid_sigs c.args.program c.requires c.in_ok-table.table c.as_slice-2.result.now (c.in_ok-table.ensures ∙ ap (λ z. builtin_types ++ z) c.as_slice.ensures) c.as_slice-2.ensures

pub delete_sigs-requires : goal.delete_sigs-requires
delete_sigs-requires c = valid_places c.args.program c.requires c.in_ok-table.table c.as_slice-3.result.now (c.in_ok-table.ensures ∙ ap (λ z. builtin_types ++ z) c.as_slice.ensures) c.as_slice-3.ensures

pub field_sigs-requires : goal.field_sigs-requires
field_sigs-requires c = small_structs c.args.program c.requires c.in_ok-table.table c.as_slice-4.result.now (c.in_ok-table.ensures ∙ ap (λ z. builtin_types ++ z) c.as_slice.ensures)
    (c.as_slice-4.ensures.value ∙ c.in_ok-called.ensures)
