use Rattle.std.proofs.Common.{List, ◌≡◌, ◌∙◌, sym, ap, subst, [], drop, length, arith, append-nil}
use Rattle.std.specs.List.{list_all}
use Rattle.std.proofs.lemmas.List.{drop_all}
use Rattle.std.proofs.lemmas.Result.{IfOk-weaker}
use Rattle.jl_model.specs.declared.ty.Ty.{Ty}
use Rattle.jl_model.specs.Signature.{Both, both_end}
use Rattle.jl_model.specs.Rows.{alts}
use Rattle.jl_model.specs.Valid.{is_known}
use Rattle.jl_model.proofs.AncestorLemmas.{each_true}
use Rattle.jl_model.proofs.KnownLemmas.{union_known, tuple_known, nominal_known}
use Rattle.jl_types.specs.Form.{Formed, Settles, Gathers}
use Rattle.jl_types.specs.Reduce.{Candidates}
use Rattle.jl_types.proofs.GroundLemmas.{all-at, size-union, size-tuple, size-at}
use Rattle.jl_types.proofs.FormLemmas.{both_step, size-nominal, settle_any, settle_var, settle_union, settle_tuple, settle_nominal}
use Rattle.jl_types.proofs.PartsLemmas.{known_parts}
use Rattle.jl_types.proofs.SettleLemmas.{settles_pass}
use Rattle.jl_types.proofs.FormedLemmas.{settles_candidates}
use Rattle.jl_types.proofs.GatherLemmas.{formed}
use Rattle.jl_types.proofs.form.+form.Goals as goal

pub settle-settle_all-requires : goal.settle-settle_all-requires
settle-settle_all-requires t c =
    let s = size-union c.args.ty.now c.in-Union.members c.as_slice.result.now c.in-Union.is c.as_slice.ensures in
    let m = length c.args.table.now in
    (omega arith, ap (list_all (is_known m)) c.as_slice.ensures ∙ each_true (is_known m) c.in-Union.members (union_known m c.in-Union.members (sym (ap (is_known m) c.in-Union.is) ∙ c.requires)))

pub settle-settle_all-requires-in-Tuple : goal.settle-settle_all-requires-in-Tuple
settle-settle_all-requires-in-Tuple t c =
    let s = size-tuple c.args.ty.now c.in-Tuple.parts c.as_slice-in-Tuple.result.now c.in-Tuple.is c.as_slice-in-Tuple.ensures in
    let m = length c.args.table.now in
    (omega arith, ap (list_all (is_known m)) c.as_slice-in-Tuple.ensures ∙ each_true (is_known m) c.in-Tuple.parts (tuple_known m c.in-Tuple.parts (sym (ap (is_known m) c.in-Tuple.is) ∙ c.requires)))

pub settle-form_all-requires : goal.settle-form_all-requires
settle-form_all-requires t c =
    let s = size-nominal c.args.ty.now c.in-Nominal.name c.in-Nominal.arguments c.as_slice-in-Nominal.result.now c.in-Nominal.is c.as_slice-in-Nominal.ensures in
    let m = length c.args.table.now in
    (omega arith, ap (list_all (is_known m)) c.as_slice-in-Nominal.ensures ∙ each_true (is_known m) c.in-Nominal.arguments (nominal_known m c.in-Nominal.name c.in-Nominal.arguments (sym (ap (is_known m) c.in-Nominal.is) ∙ c.requires)).1)

pub settle-returns-in-Any : goal.settle-returns-in-Any
settle-returns-in-Any t c = settle_any (Formed c.args.table.now) c.args.ty.now c.in-Any.is

pub settle-returns-in-Var : goal.settle-returns-in-Var
settle-returns-in-Var t c = settle_var (Formed c.args.table.now) c.args.ty.now c.in-Var.variable c.in-Var.is

pub settle-returns-in_ok-settle_all-in-Union : goal.settle-returns-in_ok-settle_all-in-Union
settle-returns-in_ok-settle_all-in-Union t c =
    settle_union (Formed c.args.table.now) c.args.ty.now c.in-Union.members c.as_slice.result.now c.in_ok-settle_all-in-Union.field-0 c.in-Union.is c.as_slice.ensures c.in_ok-settle_all-in-Union.ensures

pub settle-returns-in_ok-settle_all-in-Tuple : goal.settle-returns-in_ok-settle_all-in-Tuple
settle-returns-in_ok-settle_all-in-Tuple t c =
    settle_tuple (Formed c.args.table.now) c.args.ty.now c.in-Tuple.parts c.as_slice-in-Tuple.result.now c.in_ok-settle_all-in-Tuple.field-0 c.in-Tuple.is c.as_slice-in-Tuple.ensures c.in_ok-settle_all-in-Tuple.ensures

pub settle-returns-in_ok-form_all-in-Nominal : goal.settle-returns-in_ok-form_all-in-Nominal
settle-returns-in_ok-form_all-in-Nominal t c =
    settle_nominal (Formed c.args.table.now) c.args.ty.now c.in-Nominal.name c.in-Nominal.arguments c.as_slice-in-Nominal.result.now c.in_ok-form_all-in-Nominal.field-0 c.in-Nominal.is c.as_slice-in-Nominal.ensures c.in_ok-form_all-in-Nominal.ensures

pub form-reduced-requires : goal.form-reduced-requires
form-reduced-requires t c =
    let m = length c.args.table.now in
    let k = settles_pass (Formed c.args.table.now) (is_known m) (known_parts m) (λ a b g. g.kept (is_known m) (known_parts m)) c.args.ty.now c.in_ok-settled.settled c.in_ok-settled.ensures c.requires in
    subst (Candidates c.args.table.now) (sym (c.as_slice.ensures.value ∙ c.in_ok-candidates.ensures))
    (settles_candidates c.args.table.now c.valid.ensures c.args.ty.now c.in_ok-settled.settled c.in_ok-settled.ensures (known_parts m) k)

pub form-returns : goal.form-returns
form-returns t c =
    let m = length c.args.table.now in
    let cs = c.as_slice.result.now in
    let k = settles_pass (Formed c.args.table.now) (is_known m) (known_parts m) (λ a b g. g.kept (is_known m) (known_parts m)) c.args.ty.now c.in_ok-settled.settled c.in_ok-settled.ensures c.requires in
    let e : cs ≡ alts c.in_ok-settled.settled = c.as_slice.ensures.value ∙ c.in_ok-candidates.ensures in
    let h : Candidates c.args.table.now cs =
    subst (Candidates c.args.table.now) (sym e) (settles_candidates c.args.table.now c.valid.ensures c.args.ty.now c.in_ok-settled.settled c.in_ok-settled.ensures (known_parts m) k) in
    IfOk-weaker c.gathered.result (Gathers c.in_ok-members.members.items) (Formed c.args.table.now c.args.ty.now)
    (formed c.args.table.now c.valid.ensures c.args.ty.now c.in_ok-settled.settled c.in_ok-settled.ensures cs c.in_ok-members.members.items e h c.in_ok-members.ensures) c.gathered.ensures

pub settle_all-settle-requires : goal.settle_all-settle-requires
settle_all-settle-requires t c =
    let s = size-at c.args.types.now c.loop-ty.ty-index c.ty-item.result c.loop-ty-test.true c.ty-item.is in
    (omega arith, all-at (is_known (length c.args.table.now)) c.args.types.now c.loop-ty.ty-index c.ty-item.result c.requires c.loop-ty-test.true c.ty-item.is)

pub form_all-form-requires : goal.form_all-form-requires
form_all-form-requires t c =
    let s = size-at c.args.types.now c.loop-ty.ty-index c.ty-item.result c.loop-ty-test.true c.ty-item.is in
    (omega arith, all-at (is_known (length c.args.table.now)) c.args.types.now c.loop-ty.ty-index c.ty-item.result c.requires c.loop-ty-test.true c.ty-item.is)

pub settle_all-loop-ty-preserved : goal.settle_all-loop-ty-preserved
settle_all-loop-ty-preserved t c =
    both_step (Settles (Formed c.args.table.now)) c.args.types.now c.loop-ty.ty-index c.ty-item.result c.in_ok-settle.field-0 c.loop-ty.items.items c.push.new.self.items c.loop-ty-test.true c.ty-item.is c.in_ok-settle.ensures
    c.in_ok-push.ensures.items c.loop-ty.invariant

pub form_all-loop-ty-preserved : goal.form_all-loop-ty-preserved
form_all-loop-ty-preserved t c =
    both_step (Formed c.args.table.now) c.args.types.now c.loop-ty.ty-index c.ty-item.result c.in_ok-form.field-0 c.loop-ty.items.items c.push.new.self.items c.loop-ty-test.true c.ty-item.is c.in_ok-form.ensures
    c.in_ok-push.ensures.items c.loop-ty.invariant

pub settle_all-returns : goal.settle_all-returns
settle_all-returns t c =
    let ts = c.args.types.now in
    let us = c.loop-ty.items.items in
    let R = Settles (Formed c.args.table.now) in
    let e : drop c.loop-ty.ty-index ts ≡ [] = drop_all c.loop-ty.ty-index ts c.loop-ty-test.false in
    let b : Both R ts us = subst (Both R ts) (append-nil us) (c.loop-ty.invariant [] (let P : List Ty → Type 0 = λ z. Both R z [] in subst P (sym e) both_end)) in
    IfOk-weaker c.from_vec.result (λ row. row ≡ us) (Both R ts) (λ row i. subst (Both R ts) (sym i) b) c.from_vec.ensures

pub form_all-returns : goal.form_all-returns
form_all-returns t c =
    let ts = c.args.types.now in
    let us = c.loop-ty.items.items in
    let R = Formed c.args.table.now in
    let e : drop c.loop-ty.ty-index ts ≡ [] = drop_all c.loop-ty.ty-index ts c.loop-ty-test.false in
    let b : Both R ts us = subst (Both R ts) (append-nil us) (c.loop-ty.invariant [] (let P : List Ty → Type 0 = λ z. Both R z [] in subst P (sym e) both_end)) in
    IfOk-weaker c.from_vec.result (λ row. row ≡ us) (Both R ts) (λ row i. subst (Both R ts) (sym i) b) c.from_vec.ensures
