use Rattle.std.proofs.Common.{◌∙◌, ◌+◌, ap, length}
use Rattle.std.specs.List.{list_all}
use Rattle.jl_model.specs.Valid.{is_known}
use Rattle.jl_model.specs.Kept.{field_types}
use Rattle.jl_norm.proofs.KeptLemmas.{parent_known_next, parent_is_field, own_known}
use Rattle.jl_norm.proofs.keep.keep.Goals as goal

pub settled-requires-clause-known : goal.settled-requires-clause-known
settled-requires-clause-known c = parent_known_next c.args.table.now c.args.decl.now c.valid.ensures c.requires

pub settled-requires-clause-placed : goal.settled-requires-clause-placed
settled-requires-clause-placed c = parent_is_field c.args.table.now c.args.decl.now c.valid.ensures c.requires

pub keep_fields-requires-clause-types_known : goal.keep_fields-requires-clause-types_known
keep_fields-requires-clause-types_known c =
    ap (λ z. list_all (is_known (length c.args.table.now + 1)) (field_types z)) c.as_slice-2.ensures ∙ own_known c.args.table.now c.args.decl.now c.requires
