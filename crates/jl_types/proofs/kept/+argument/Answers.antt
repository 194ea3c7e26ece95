use Rattle.std.proofs.Common.{List, ◌≡◌, ◌∙◌, sym, ap, subst, ◌+◌, [], drop, length, true, false, arith, append-nil}
use Rattle.std.specs.List.{list_all}
use Rattle.std.proofs.lemmas.List.{drop_all}
use Rattle.std.proofs.lemmas.Result.{IfOk-weaker}
use Rattle.jl_model.specs.declared.ty.Ty.{Ty}
use Rattle.jl_model.specs.Signature.{Both, both_end}
use Rattle.jl_model.specs.Valid.{is_known}
use Rattle.jl_model.specs.Refusals.{is_free_of, is_placed}
use Rattle.jl_model.proofs.AncestorLemmas.{each_true}
use Rattle.jl_model.proofs.KnownLemmas.{nominal_known}
use Rattle.jl_model.proofs.DeclaredLemmas.{placed-nominal}
use Rattle.jl_types.specs.Form.{Formed, Keeps, free}
use Rattle.jl_types.proofs.GroundLemmas.{all-at, size-at}
use Rattle.jl_types.proofs.FormLemmas.{both_step, size-nominal}
use Rattle.jl_types.proofs.PlaceLemmas.{free_is_known}
use Rattle.jl_types.proofs.KeepLemmas.{keep_nominal, keep_other}
use Rattle.jl_types.proofs.kept.+argument.Goals as goal

pub keep_argument-form-requires : goal.keep_argument-form-requires
keep_argument-form-requires t c =
    let m = length c.args.table.now in
    let f : is_free_of m c.args.ty.now ≡ true = sym (c.is_free.ensures ∙ ap (λ z. is_free_of z c.args.ty.now) c.count.ensures) ∙ c.if-is_free.true in
    free_is_known m c.args.ty.now f c.requires.known

pub keep_argument-returns-then-is_free : goal.keep_argument-returns-then-is_free
keep_argument-returns-then-is_free t c =
    let m = length c.args.table.now in
    let f : is_free_of m c.args.ty.now ≡ true = sym (c.is_free.ensures ∙ ap (λ z. is_free_of z c.args.ty.now) c.count.ensures) ∙ c.if-is_free.true in
    IfOk-weaker c.form.result (Formed c.args.table.now c.args.ty.now) (Keeps c.args.table.now c.args.ty.now) (λ u h. free c.args.ty.now u f h) c.form.ensures

pub keep_argument-keep_arguments-requires : goal.keep_argument-keep_arguments-requires
keep_argument-keep_arguments-requires t c =
    let s = size-nominal c.args.ty.now c.in-Nominal.name c.in-Nominal.arguments c.as_slice.result.now c.in-Nominal.is c.as_slice.ensures in
    let m = length c.args.table.now in
    let k = c.in-Nominal.name in
    let ts = c.in-Nominal.arguments in (
      omega arith,
      (
        ap (list_all (is_known (m + 1))) c.as_slice.ensures ∙ each_true (is_known (m + 1)) ts (nominal_known (m + 1) k ts (sym (ap (is_known (m + 1)) c.in-Nominal.is) ∙ c.requires.known)).1,
        ap (list_all (is_placed m)) c.as_slice.ensures ∙ sym (placed-nominal m k ts) ∙ sym (ap (is_placed m) c.in-Nominal.is) ∙ c.requires.placed,
      ),
    )

pub keep_argument-returns-in_ok-keep_arguments-in-Nominal : goal.keep_argument-returns-in_ok-keep_arguments-in-Nominal
keep_argument-returns-in_ok-keep_arguments-in-Nominal t c =
    keep_nominal c.args.table.now c.args.ty.now c.in-Nominal.name c.in-Nominal.arguments c.as_slice.result.now c.in_ok-keep_arguments-in-Nominal.field-0 c.in-Nominal.is c.as_slice.ensures c.in_ok-keep_arguments-in-Nominal.ensures

pub keep_argument-returns-in_default : goal.keep_argument-returns-in_default
keep_argument-returns-in_default t c =
    let m = length c.args.table.now in
    let ty = c.args.ty.now in
    let f : is_free_of m ty ≡ false = sym (c.is_free.ensures ∙ ap (λ z. is_free_of z ty) c.count.ensures) ∙ c.if-is_free.false in
    IfOk-weaker c.copy.result (λ u. u ≡ ty) (Keeps c.args.table.now ty) (λ u e. subst (Keeps c.args.table.now ty) (sym e) (keep_other c.args.table.now ty c.requires.placed f c.in_default.not-Nominal)) c.copy.ensures

pub keep_arguments-keep_argument-requires : goal.keep_arguments-keep_argument-requires
keep_arguments-keep_argument-requires t c =
    let s = size-at c.args.types.now c.loop-ty.ty-index c.ty-item.result c.loop-ty-test.true c.ty-item.is in
    let m = length c.args.table.now in (
      omega arith,
      (
        all-at (is_known (m + 1)) c.args.types.now c.loop-ty.ty-index c.ty-item.result c.requires.known c.loop-ty-test.true c.ty-item.is,
        all-at (is_placed m) c.args.types.now c.loop-ty.ty-index c.ty-item.result c.requires.placed c.loop-ty-test.true c.ty-item.is,
      ),
    )

pub keep_arguments-loop-ty-preserved : goal.keep_arguments-loop-ty-preserved
keep_arguments-loop-ty-preserved t c =
    both_step (Keeps c.args.table.now) c.args.types.now c.loop-ty.ty-index c.ty-item.result c.in_ok-keep_argument.field-0 c.loop-ty.items.items c.push.new.self.items c.loop-ty-test.true c.ty-item.is
    c.in_ok-keep_argument.ensures c.in_ok-push.ensures.items c.loop-ty.invariant

pub keep_arguments-returns : goal.keep_arguments-returns
keep_arguments-returns t c =
    let ts = c.args.types.now in
    let us = c.loop-ty.items.items in
    let R = Keeps c.args.table.now in
    let e : drop c.loop-ty.ty-index ts ≡ [] = drop_all c.loop-ty.ty-index ts c.loop-ty-test.false in
    let b : Both R ts us = subst (Both R ts) (append-nil us) (c.loop-ty.invariant [] (let P : List Ty → Type 0 = λ z. Both R z [] in subst P (sym e) both_end)) in
    IfOk-weaker c.from_vec.result (λ row. row ≡ us) (Both R ts) (λ row i. subst (Both R ts) (sym i) b) c.from_vec.ensures
