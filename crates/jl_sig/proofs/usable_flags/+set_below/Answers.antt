use Rattle.std.proofs.Common.{◌∙◌, refl, sym, ap, true, List, []}
use Rattle.std.specs.List.{list_any}
use Rattle.jl_model.specs.declared.ty.Ty.{Ty}
use Rattle.jl_model.specs.Usable.{stands_in}
use Rattle.jl_sig.specs.Flags.{with_flag, is_below}
use Rattle.jl_sig.proofs.FlagLemmas.{with_same, with_none, step_any, all_done}
use Rattle.jl_sig.proofs.StandLemmas.{below-any, below-var, below-union, below-tuple, below-nominal}
use Rattle.jl_sig.proofs.usable_flags.+set_below.Goals as goal

pub set_below-returns-in-Any : goal.set_below-returns-in-Any
set_below-returns-in-Any t c = sym (with_none (λ v. is_below v c.args.ty.now) true 0 c.args.flags.now.items (λ v. ap (is_below v) c.in-Any.is ∙ below-any v))

pub set_below-returns-in-Union : goal.set_below-returns-in-Union
set_below-returns-in-Union t c =
    c.set_below_in.ensures
    ∙ with_same _ (λ v. is_below v c.args.ty.now) true 0 c.args.flags.now.items (λ v. ap (list_any (is_below v)) c.as_slice.ensures ∙ sym (ap (is_below v) c.in-Union.is ∙ below-union v c.in-Union.members))

pub set_below-returns-in-Tuple : goal.set_below-returns-in-Tuple
set_below-returns-in-Tuple t c =
    c.set_below_in-in-Tuple.ensures
    ∙ with_same _ (λ v. is_below v c.args.ty.now) true 0 c.args.flags.now.items (λ v. ap (list_any (is_below v)) c.as_slice-in-Tuple.ensures ∙ sym (ap (is_below v) c.in-Tuple.is ∙ below-tuple v c.in-Tuple.parts))

pub set_below-returns-in-Nominal : goal.set_below-returns-in-Nominal
set_below-returns-in-Nominal t c =
    c.set_standing_in.ensures
    ∙ with_same _ (λ v. is_below v c.args.ty.now) true 0 c.args.flags.now.items
    (λ v. ap (list_any (stands_in v)) c.as_slice-in-Nominal.ensures ∙ sym (ap (is_below v) c.in-Nominal.is ∙ below-nominal v c.in-Nominal.field-0 c.in-Nominal.arguments))

pub set_below-returns-in-Var : goal.set_below-returns-in-Var
set_below-returns-in-Var t c = sym (with_none (λ v. is_below v c.args.ty.now) true 0 c.args.flags.now.items (λ v. ap (is_below v) c.in-Var.is ∙ below-var v c.in-Var.field-0))

pub set_below_in-loop-ty-preserved : goal.set_below_in-loop-ty-preserved
set_below_in-loop-ty-preserved t c =
    step_any is_below true c.args.types.now c.loop-ty.ty-index c.ty-item.result c.loop-ty-test.true c.ty-item.is c.loop-ty.flags.items c.set_below.new.flags.items c.set_below.ensures ∙ c.loop-ty.invariant

pub set_below_in-returns : goal.set_below_in-returns
set_below_in-returns t c =
    sym (ap (λ (z : List Ty). with_flag (λ v. list_any (is_below v) z) true 0 c.loop-ty.flags.items) (all_done c.args.types.now c.loop-ty.ty-index c.loop-ty-test.false)
    ∙ with_none (λ v. list_any (is_below v) []) true 0 c.loop-ty.flags.items (λ v. refl))
    ∙ c.loop-ty.invariant
