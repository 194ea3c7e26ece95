use Rattle.std.proofs.Common.{◌∙◌, refl, sym, ap, false, not, List, []}
use Rattle.std.specs.List.{list_any, list_all}
use Rattle.jl_model.specs.Usable.{stands_in, is_outside_unions}
use Rattle.jl_model.specs.declared.ty.Ty.{Ty}
use Rattle.jl_sig.specs.Flags.{with_flag}
use Rattle.jl_sig.proofs.FlagLemmas.{with_same, with_none, step_all, all_done, not_not}
use Rattle.jl_sig.proofs.UsableLemmas.{outside-any, outside-var, outside-union, outside-tuple, outside-nominal}
use Rattle.jl_sig.proofs.usable_flags.+clear_unions.Goals as goal

pub clear_unions-returns-in-Any : goal.clear_unions-returns-in-Any
clear_unions-returns-in-Any t c =
    sym (with_none (λ v. not (is_outside_unions v c.args.ty.now)) false 0 c.args.flags.now.items (λ v. ap not (ap (is_outside_unions v) c.in-Any.is ∙ outside-any v)))

pub clear_unions-returns-in-Union : goal.clear_unions-returns-in-Union
clear_unions-returns-in-Union t c =
    c.set_standing_in.ensures
    ∙ with_same _ (λ v. not (is_outside_unions v c.args.ty.now)) false 0 c.args.flags.now.items
    (λ v. ap (list_any (stands_in v)) c.as_slice.ensures ∙ sym (ap not (ap (is_outside_unions v) c.in-Union.is ∙ outside-union v c.in-Union.members) ∙ not_not (list_any (stands_in v) c.in-Union.members)))

pub clear_unions-returns-in-Tuple : goal.clear_unions-returns-in-Tuple
clear_unions-returns-in-Tuple t c =
    c.clear_unions_in.ensures
    ∙ with_same _ (λ v. not (is_outside_unions v c.args.ty.now)) false 0 c.args.flags.now.items
    (λ v. ap not (ap (list_all (is_outside_unions v)) c.as_slice-in-Tuple.ensures ∙ sym (ap (is_outside_unions v) c.in-Tuple.is ∙ outside-tuple v c.in-Tuple.parts)))

pub clear_unions-returns-in-Nominal : goal.clear_unions-returns-in-Nominal
clear_unions-returns-in-Nominal t c =
    c.clear_unions_in-in-Nominal.ensures
    ∙ with_same _ (λ v. not (is_outside_unions v c.args.ty.now)) false 0 c.args.flags.now.items
    (λ v. ap not (ap (list_all (is_outside_unions v)) c.as_slice-in-Nominal.ensures ∙ sym (ap (is_outside_unions v) c.in-Nominal.is ∙ outside-nominal v c.in-Nominal.field-0 c.in-Nominal.arguments)))

pub clear_unions-returns-in-Var : goal.clear_unions-returns-in-Var
clear_unions-returns-in-Var t c =
    sym (with_none (λ v. not (is_outside_unions v c.args.ty.now)) false 0 c.args.flags.now.items (λ v. ap not (ap (is_outside_unions v) c.in-Var.is ∙ outside-var v c.in-Var.field-0)))

pub clear_unions_in-loop-ty-preserved : goal.clear_unions_in-loop-ty-preserved
clear_unions_in-loop-ty-preserved t c =
    step_all is_outside_unions false c.args.types.now c.loop-ty.ty-index c.ty-item.result c.loop-ty-test.true c.ty-item.is c.loop-ty.flags.items c.clear_unions.new.flags.items c.clear_unions.ensures ∙ c.loop-ty.invariant

pub clear_unions_in-returns : goal.clear_unions_in-returns
clear_unions_in-returns t c =
    sym (ap (λ (z : List Ty). with_flag (λ v. not (list_all (is_outside_unions v) z)) false 0 c.loop-ty.flags.items) (all_done c.args.types.now c.loop-ty.ty-index c.loop-ty-test.false)
    ∙ with_none (λ v. not (list_all (is_outside_unions v) [])) false 0 c.loop-ty.flags.items (λ v. refl))
    ∙ c.loop-ty.invariant
