use Rattle.std.proofs.Common.{List, ◌≡◌, ◌∙◌, sym, ap, subst, ◌+◌, [], drop, length, arith, append-nil}
use Rattle.std.specs.List.{list_all}
use Rattle.std.proofs.lemmas.List.{drop_all}
use Rattle.std.proofs.lemmas.Result.{IfOk-weaker}
use Rattle.jl_model.specs.declared.ty.Ty.{Ty}
use Rattle.jl_model.specs.Signature.{Both, both_end}
use Rattle.jl_model.specs.Valid.{is_known}
use Rattle.jl_model.specs.Refusals.{is_placed, is_placed_field}
use Rattle.jl_model.proofs.AncestorLemmas.{each_true}
use Rattle.jl_model.proofs.KnownLemmas.{union_known, tuple_known, nominal_known}
use Rattle.jl_types.specs.Form.{Settles, Keeps}
use Rattle.jl_types.proofs.GroundLemmas.{all-at, size-union, size-tuple, size-at}
use Rattle.jl_types.proofs.FormLemmas.{both_step, settle_any, settle_var, settle_union, settle_tuple, settle_nominal}
use Rattle.jl_types.proofs.PlaceLemmas.{field-union, field-tuple, field-nominal}
use Rattle.jl_types.proofs.kept.+keep.Goals as goal

pub keep-keep_all-requires : goal.keep-keep_all-requires
keep-keep_all-requires t c =
    let s = size-union c.args.ty.now c.in-Union.members c.as_slice.result.now c.in-Union.is c.as_slice.ensures in
    let m = length c.args.table.now in
    let ts = c.in-Union.members in (
      omega arith,
      (
        ap (list_all (is_known (m + 1))) c.as_slice.ensures ∙ each_true (is_known (m + 1)) ts (union_known (m + 1) ts (sym (ap (is_known (m + 1)) c.in-Union.is) ∙ c.requires.known)),
        ap (list_all (is_placed_field m)) c.as_slice.ensures ∙ sym (field-union m ts) ∙ sym (ap (is_placed_field m) c.in-Union.is) ∙ c.requires.placed,
      ),
    )

pub keep-keep_all-requires-in-Tuple : goal.keep-keep_all-requires-in-Tuple
keep-keep_all-requires-in-Tuple t c =
    let s = size-tuple c.args.ty.now c.in-Tuple.parts c.as_slice-in-Tuple.result.now c.in-Tuple.is c.as_slice-in-Tuple.ensures in
    let m = length c.args.table.now in
    let ts = c.in-Tuple.parts in (
      omega arith,
      (
        ap (list_all (is_known (m + 1))) c.as_slice-in-Tuple.ensures ∙ each_true (is_known (m + 1)) ts (tuple_known (m + 1) ts (sym (ap (is_known (m + 1)) c.in-Tuple.is) ∙ c.requires.known)),
        ap (list_all (is_placed_field m)) c.as_slice-in-Tuple.ensures ∙ sym (field-tuple m ts) ∙ sym (ap (is_placed_field m) c.in-Tuple.is) ∙ c.requires.placed,
      ),
    )

pub keep-keep_arguments-requires-clause-known : goal.keep-keep_arguments-requires-clause-known
keep-keep_arguments-requires-clause-known t c =
    let m = length c.args.table.now in
    let ts = c.in-Nominal.arguments in
    ap (list_all (is_known (m + 1))) c.as_slice-in-Nominal.ensures
    ∙ each_true (is_known (m + 1)) ts (nominal_known (m + 1) c.in-Nominal.name ts (sym (ap (is_known (m + 1)) c.in-Nominal.is) ∙ c.requires.known)).1

pub keep-keep_arguments-requires-clause-placed : goal.keep-keep_arguments-requires-clause-placed
keep-keep_arguments-requires-clause-placed t c =
    let m = length c.args.table.now in
    ap (list_all (is_placed m)) c.as_slice-in-Nominal.ensures ∙ sym (field-nominal m c.in-Nominal.name c.in-Nominal.arguments) ∙ sym (ap (is_placed_field m) c.in-Nominal.is) ∙ c.requires.placed

pub keep-returns-in-Any : goal.keep-returns-in-Any
keep-returns-in-Any t c = settle_any (Keeps c.args.table.now) c.args.ty.now c.in-Any.is

pub keep-returns-in-Var : goal.keep-returns-in-Var
keep-returns-in-Var t c = settle_var (Keeps c.args.table.now) c.args.ty.now c.in-Var.variable c.in-Var.is

pub keep-returns-in_ok-keep_all-in-Union : goal.keep-returns-in_ok-keep_all-in-Union
keep-returns-in_ok-keep_all-in-Union t c =
    settle_union (Keeps c.args.table.now) c.args.ty.now c.in-Union.members c.as_slice.result.now c.in_ok-keep_all-in-Union.field-0 c.in-Union.is c.as_slice.ensures c.in_ok-keep_all-in-Union.ensures

pub keep-returns-in_ok-keep_all-in-Tuple : goal.keep-returns-in_ok-keep_all-in-Tuple
keep-returns-in_ok-keep_all-in-Tuple t c =
    settle_tuple (Keeps c.args.table.now) c.args.ty.now c.in-Tuple.parts c.as_slice-in-Tuple.result.now c.in_ok-keep_all-in-Tuple.field-0 c.in-Tuple.is c.as_slice-in-Tuple.ensures c.in_ok-keep_all-in-Tuple.ensures

pub keep-returns-in_ok-keep_arguments-in-Nominal : goal.keep-returns-in_ok-keep_arguments-in-Nominal
keep-returns-in_ok-keep_arguments-in-Nominal t c =
    settle_nominal (Keeps c.args.table.now) c.args.ty.now c.in-Nominal.name c.in-Nominal.arguments c.as_slice-in-Nominal.result.now c.in_ok-keep_arguments-in-Nominal.field-0 c.in-Nominal.is c.as_slice-in-Nominal.ensures
    c.in_ok-keep_arguments-in-Nominal.ensures

pub keep_all-keep-requires : goal.keep_all-keep-requires
keep_all-keep-requires t c =
    let s = size-at c.args.types.now c.loop-ty.ty-index c.ty-item.result c.loop-ty-test.true c.ty-item.is in
    let m = length c.args.table.now in (
      omega arith,
      (
        all-at (is_known (m + 1)) c.args.types.now c.loop-ty.ty-index c.ty-item.result c.requires.known c.loop-ty-test.true c.ty-item.is,
        all-at (is_placed_field m) c.args.types.now c.loop-ty.ty-index c.ty-item.result c.requires.placed c.loop-ty-test.true c.ty-item.is,
      ),
    )

pub keep_all-loop-ty-preserved : goal.keep_all-loop-ty-preserved
keep_all-loop-ty-preserved t c =
    both_step (Settles (Keeps c.args.table.now)) c.args.types.now c.loop-ty.ty-index c.ty-item.result c.in_ok-keep.field-0 c.loop-ty.items.items c.push.new.self.items c.loop-ty-test.true c.ty-item.is
    c.in_ok-keep.ensures c.in_ok-push.ensures.items c.loop-ty.invariant

pub keep_all-returns : goal.keep_all-returns
keep_all-returns t c =
    let ts = c.args.types.now in
    let us = c.loop-ty.items.items in
    let R = Settles (Keeps c.args.table.now) in
    let e : drop c.loop-ty.ty-index ts ≡ [] = drop_all c.loop-ty.ty-index ts c.loop-ty-test.false in
    let b : Both R ts us = subst (Both R ts) (append-nil us) (c.loop-ty.invariant [] (let P : List Ty → Type 0 = λ z. Both R z [] in subst P (sym e) both_end)) in
    IfOk-weaker c.from_vec.result (λ row. row ≡ us) (Both R ts) (λ row i. subst (Both R ts) (sym i) b) c.from_vec.ensures
