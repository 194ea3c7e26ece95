use Rattle.std.proofs.Common.{◌∙◌, refl, sym, ap, List, []}
use Rattle.std.specs.List.{list_any}
use Rattle.jl_model.specs.declared.ty.Ty.{Ty}
use Rattle.jl_model.specs.Usable.{stands_in}
use Rattle.jl_sig.specs.Flags.{with_flag}
use Rattle.jl_sig.proofs.FlagLemmas.{with_same, with_none, step_any, all_done}
use Rattle.jl_sig.proofs.UsableLemmas.{stands-any, stands-var, stands-union, stands-tuple, stands-nominal}
use Rattle.jl_sig.proofs.usable_flags.+set_stands.Goals as goal

pub set_standing-returns-in-Any : goal.set_standing-returns-in-Any
set_standing-returns-in-Any t c = sym (with_none (λ v. stands_in v c.args.ty.now) c.args.value 0 c.args.flags.now.items (λ v. ap (stands_in v) c.in-Any.is ∙ stands-any v))

pub set_standing-returns-in-Union : goal.set_standing-returns-in-Union
set_standing-returns-in-Union t c =
    c.set_standing_in.ensures
    ∙ with_same _ (λ v. stands_in v c.args.ty.now) c.args.value 0 c.args.flags.now.items
    (λ v. ap (list_any (stands_in v)) c.as_slice.ensures ∙ sym (ap (stands_in v) c.in-Union.is ∙ stands-union v c.in-Union.members))

pub set_standing-returns-in-Tuple : goal.set_standing-returns-in-Tuple
set_standing-returns-in-Tuple t c =
    c.set_standing_in-in-Tuple.ensures
    ∙ with_same _ (λ v. stands_in v c.args.ty.now) c.args.value 0 c.args.flags.now.items
    (λ v. ap (list_any (stands_in v)) c.as_slice-in-Tuple.ensures ∙ sym (ap (stands_in v) c.in-Tuple.is ∙ stands-tuple v c.in-Tuple.parts))

pub set_standing-returns-in-Nominal : goal.set_standing-returns-in-Nominal
set_standing-returns-in-Nominal t c =
    c.set_standing_in-in-Nominal.ensures
    ∙ with_same _ (λ v. stands_in v c.args.ty.now) c.args.value 0 c.args.flags.now.items
    (λ v. ap (list_any (stands_in v)) c.as_slice-in-Nominal.ensures ∙ sym (ap (stands_in v) c.in-Nominal.is ∙ stands-nominal v c.in-Nominal.field-0 c.in-Nominal.arguments))

pub set_standing-returns-in-Var : goal.set_standing-returns-in-Var
set_standing-returns-in-Var t c =
    c.set.ensures
    ∙ with_same _ (λ v. stands_in v c.args.ty.now) c.args.value 0 c.args.flags.now.items (λ v. sym (ap (stands_in v) c.in-Var.is ∙ stands-var v c.in-Var.variable))

pub set_standing_in-loop-ty-preserved : goal.set_standing_in-loop-ty-preserved
set_standing_in-loop-ty-preserved t c =
    step_any stands_in c.args.value c.args.types.now c.loop-ty.ty-index c.ty-item.result c.loop-ty-test.true c.ty-item.is c.loop-ty.flags.items c.set_standing.new.flags.items c.set_standing.ensures ∙ c.loop-ty.invariant

pub set_standing_in-returns : goal.set_standing_in-returns
set_standing_in-returns t c =
    sym (ap (λ (z : List Ty). with_flag (λ v. list_any (stands_in v) z) c.args.value 0 c.loop-ty.flags.items) (all_done c.args.types.now c.loop-ty.ty-index c.loop-ty-test.false)
    ∙ with_none (λ v. list_any (stands_in v) []) c.args.value 0 c.loop-ty.flags.items (λ v. refl))
    ∙ c.loop-ty.invariant
