use Rattle.std.proofs.Common.{◌∙◌, sym, ap, subst, Err}
use Rattle.jl_sig.specs.Parts.{all_given}
use Rattle.jl_sig.specs.Forms.{AreFormed}
use Rattle.jl_match.proofs.MakeLemmas.{arguments_ground}
use Rattle.jl_operations.proofs.SettleLemmas.{own_known, own_small, own_outside}
use Rattle.jl_operations.proofs.broken.is_broken.Goals as goal

pub normal_arguments-requires : goal.normal_arguments-requires
normal_arguments-requires c = own_known c.args.table.now c.args.name c.args.types.now (all_given c.as_slice.result.now) (ap all_given c.as_slice.ensures.value ∙ c.in_ok-own.ensures) c.requires

pub unreachable-requires : goal.unreachable-requires
unreachable-requires c =
    own_small c.args.table.now c.args.name c.args.types.now (all_given c.as_slice.result.now) (ap all_given c.as_slice.ensures.value ∙ c.in_ok-own.ensures) c.requires
    (c.normal_arguments.ensures.limit (c.in-Err-TypeLimit.is ∙ ap (λ z. Err z) c.in-Err-TypeLimit.field-0-is))

pub have_outside-requires : goal.have_outside-requires
have_outside-requires c =
    arguments_ground c.args.table.now c.valid.ensures (all_given c.as_slice.result.now) c.as_slice-2.result.now
    (subst (λ z. AreFormed c.args.table.now (all_given c.as_slice.result.now) (all_given z)) (sym c.as_slice-2.ensures.value) c.in-Ok.ensures.forms)

pub returns : goal.returns
returns c =
    let own = ap all_given c.as_slice.ensures.value ∙ c.in_ok-own.ensures in
    let f = subst (λ z. AreFormed c.args.table.now (all_given c.as_slice.result.now) (all_given z)) (sym c.as_slice-2.ensures.value) c.in-Ok.ensures.forms in
    own_outside c.args.table.now c.valid.ensures c.args.name c.args.types.now (all_given c.as_slice-2.result.now)
    (subst (λ z. AreFormed c.args.table.now z (all_given c.as_slice-2.result.now)) own f) c.have_outside.result c.have_outside.ensures
