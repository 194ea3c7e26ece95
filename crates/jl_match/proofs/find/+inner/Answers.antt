use Rattle.std.proofs.Common.{◌≡◌, ◌∙◌, sym, ap, ap₂, subst, map, IfOk, arith, length}
use Rattle.jl_model.specs.Ancestors.{table_of}
use Rattle.jl_model.specs.Subtype.{opaque}
use Rattle.jl_model.specs.Valid.{is_known}
use Rattle.jl_types.proofs.GroundLemmas.{size-tuple, size-at, all-at}
use Rattle.jl_model.specs.Found.{find_inner, find_arg, first}
use Rattle.jl_search.proofs.FindLemmas.{inner-find-any, inner-find-union, inner-find-tuple, inner-find-nominal, inner-find-var}
use Rattle.jl_match.proofs.KnownLemmas.{parts_known}
use Rattle.jl_match.proofs.find.+inner.Goals as goal

pub in_inner-first_inner-requires : goal.in_inner-first_inner-requires
in_inner-first_inner-requires t c =
    let s = size-tuple c.args.pattern.now c.in-Tuple.patterns c.as_slice.result.now c.in-Tuple.is c.as_slice.ensures in
    (omega arith, parts_known (length c.args.table.now) c.args.ty.now c.parts.result.now c.parts.ensures c.requires.known)

pub first_inner-in_inner-requires : goal.first_inner-in_inner-requires
first_inner-in_inner-requires t c =
    let s = size-at c.args.patterns.now c.loop-i.i c.index-patterns-i.result c.loop-i-test.true c.index-patterns-i.is in
    (omega arith, all-at (is_known (length c.args.table.now)) c.args.types.now c.loop-i.i c.index-types-i.result c.requires.known (omega arith) c.index-types-i.is)

pub in_inner-returns-in-Any : goal.in_inner-returns-in-Any
in_inner-returns-in-Any t c =
    let n = table_of c.args.table.now in
    sym (ap (λ u. find_inner n opaque c.args.variable u c.args.ty.now) c.in-Any.is ∙ inner-find-any n opaque c.args.variable c.args.ty.now)

pub in_inner-returns-in-Union : goal.in_inner-returns-in-Union
in_inner-returns-in-Union t c =
    let n = table_of c.args.table.now in
    sym (ap (λ u. find_inner n opaque c.args.variable u c.args.ty.now) c.in-Union.is ∙ inner-find-union n opaque c.args.variable c.args.ty.now c.in-Union.field-0)

pub in_inner-returns-in-Var : goal.in_inner-returns-in-Var
in_inner-returns-in-Var t c =
    let n = table_of c.args.table.now in
    sym (ap (λ u. find_inner n opaque c.args.variable u c.args.ty.now) c.in-Var.is ∙ inner-find-var n opaque c.args.variable c.args.ty.now c.in-Var.field-0)

pub in_inner-returns-in-Tuple : goal.in_inner-returns-in-Tuple
in_inner-returns-in-Tuple t c =
    let n = table_of c.args.table.now in
    let v = c.args.variable in
    let e : first (map (find_inner n opaque v) c.as_slice.result.now) c.parts.result.now ≡ find_inner n opaque v c.args.pattern.now c.args.ty.now =
    ap₂ (λ ys xs. first (map (find_inner n opaque v) ys) xs) c.as_slice.ensures c.parts.ensures ∙ sym (inner-find-tuple n opaque v c.args.ty.now c.in-Tuple.patterns)
    ∙ sym (ap (λ u. find_inner n opaque v u c.args.ty.now) c.in-Tuple.is) in
    subst (λ z. IfOk c.first_inner.result (λ r. r ≡ z)) e c.first_inner.ensures

pub in_inner-returns-in_ok-above-in-Nominal : goal.in_inner-returns-in_ok-above-in-Nominal
in_inner-returns-in_ok-above-in-Nominal t c =
    let n = table_of c.args.table.now in
    let v = c.args.variable in
    let e : first (map (find_arg v) c.as_slice-in-Nominal.result.now) c.as_slice-in-Nominal-2.result.now ≡ find_inner n opaque v c.args.pattern.now c.args.ty.now =
    ap₂ (λ ys xs. first (map (find_arg v) ys) xs) c.as_slice-in-Nominal.ensures (c.as_slice-in-Nominal-2.ensures ∙ c.in_ok-above-in-Nominal.ensures)
    ∙ sym (inner-find-nominal n opaque v c.args.ty.now c.in-Nominal.target c.in-Nominal.patterns) ∙ sym (ap (λ u. find_inner n opaque v u c.args.ty.now) c.in-Nominal.is) in
    subst (λ z. IfOk c.first_argument.result (λ r. r ≡ z)) e c.first_argument.ensures
