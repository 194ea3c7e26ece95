use Rattle.std.proofs.Common.{◌≡◌, ◌∙◌, sym, ap, ap₂, subst, map, IfOk, arith, Some}
use Rattle.jl_model.specs.declared.ty.Ty.TheViews.{out-Ty}
use Rattle.jl_model.specs.Ancestors.{table_of}
use Rattle.jl_types.proofs.GroundLemmas.{size-tuple, size-at}
use Rattle.jl_model.specs.Found.{find_inner, find_arg, first, parts_of, raised, ancestor, or_none}
use Rattle.jl_subsig.specs.Side.{held, lift_to}
use Rattle.jl_search.proofs.FindLemmas.{inner-find-any, inner-find-union, inner-find-tuple, inner-find-nominal, inner-find-var}
use Rattle.jl_search.proofs.SearchLemmas.{first-none}
use Rattle.jl_subsig.proofs.AncestorSteps.{no_parts, ancestor_is}
use Rattle.jl_subsig.proofs.LeftPartLemmas.{left-at, raised_tuple}
use Rattle.jl_subsig.proofs.find.+inner.Goals as goal

pub first_inner-in_inner-requires : goal.first_inner-in_inner-requires
first_inner-in_inner-requires t c =
    let s = size-at c.args.patterns.now c.loop-i.i c.index-patterns-i.result c.loop-i-test.true c.index-patterns-i.is in
    (omega arith, (c.requires.told, left-at c.args.table.now (held c.args.left.now c.args.row.now) c.args.types.now c.loop-i.i c.index-types-i.result c.requires.types (omega arith) c.index-types-i.is))

pub in_inner-first_inner-requires : goal.in_inner-first_inner-requires
in_inner-first_inner-requires t c =
    let s = size-tuple c.args.pattern.now c.in-Tuple.patterns c.as_slice.result.now c.in-Tuple.is c.as_slice.ensures in
    (omega arith, (c.requires.told, raised_tuple c.args.table.now (held c.args.left.now c.args.row.now) c.args.ty.now c.in-Some.types.now c.requires.ty c.in-Some.ensures))

pub in_inner-returns-in-Any : goal.in_inner-returns-in-Any
in_inner-returns-in-Any t c =
    let n = table_of c.args.table.now in
    let g = held c.args.left.now c.args.row.now in
    sym (ap (λ u. find_inner n g c.args.variable u c.args.ty.now) c.in-Any.is ∙ inner-find-any n g c.args.variable c.args.ty.now)

pub in_inner-returns-in-Union : goal.in_inner-returns-in-Union
in_inner-returns-in-Union t c =
    let n = table_of c.args.table.now in
    let g = held c.args.left.now c.args.row.now in
    sym (ap (λ u. find_inner n g c.args.variable u c.args.ty.now) c.in-Union.is ∙ inner-find-union n g c.args.variable c.args.ty.now c.in-Union.field-0)

pub in_inner-returns-in-Var : goal.in_inner-returns-in-Var
in_inner-returns-in-Var t c =
    let n = table_of c.args.table.now in
    let g = held c.args.left.now c.args.row.now in
    sym (ap (λ u. find_inner n g c.args.variable u c.args.ty.now) c.in-Var.is ∙ inner-find-var n g c.args.variable c.args.ty.now c.in-Var.field-0)

pub in_inner-returns-in-Some : goal.in_inner-returns-in-Some
in_inner-returns-in-Some t c =
    let n = table_of c.args.table.now in
    let g = held c.args.left.now c.args.row.now in
    let v = c.args.variable in
    let e : first (map (find_inner n g v) c.as_slice.result.now) c.in-Some.types.now ≡ find_inner n g v c.args.pattern.now c.args.ty.now =
    ap₂ (λ ys xs. first (map (find_inner n g v) ys) xs) c.as_slice.ensures (ap parts_of (sym c.in-Some.ensures)) ∙ sym (inner-find-tuple n g v c.args.ty.now c.in-Tuple.patterns)
    ∙ sym (ap (λ u. find_inner n g v u c.args.ty.now) c.in-Tuple.is) in
    subst (λ z. IfOk c.first_inner.result (λ r. r ≡ z)) e c.first_inner.ensures

pub in_inner-returns-in-None : goal.in_inner-returns-in-None
in_inner-returns-in-None t c =
    let n = table_of c.args.table.now in
    let g = held c.args.left.now c.args.row.now in
    let v = c.args.variable in
    sym (ap (λ u. find_inner n g v u c.args.ty.now) c.in-Tuple.is ∙ inner-find-tuple n g v c.args.ty.now c.in-Tuple.patterns
    ∙ ap (first (map (find_inner n g v) c.in-Tuple.patterns)) (no_parts (raised g (out-Ty c.args.ty.now)) c.in-None.ensures) ∙ first-none (map (find_inner n g v) c.in-Tuple.patterns))

pub in_inner-returns-in-Some-2 : goal.in_inner-returns-in-Some-2
in_inner-returns-in-Some-2 t c =
    let n = table_of c.args.table.now in
    let g = held c.args.left.now c.args.row.now in
    let v = c.args.variable in
    let m = c.in-Nominal.target in
    let x = raised g (out-Ty c.args.ty.now) in
    let k : Some c.in-Some-2.above ≡ lift_to n m x = sym c.in-Some-2.is ∙ c.in_ok-above-in-Nominal.ensures in
    let z : c.in-Some-2.above ≡ ancestor n m x = ap or_none k ∙ sym (ancestor_is n m x) in
    let e : first (map (find_arg v) c.as_slice-in-Some-2.result.now) c.as_slice-in-Some-2-2.result.now ≡ find_inner n g v c.args.pattern.now c.args.ty.now =
    ap₂ (λ ys xs. first (map (find_arg v) ys) xs) c.as_slice-in-Some-2.ensures (c.as_slice-in-Some-2-2.ensures ∙ z) ∙ sym (inner-find-nominal n g v c.args.ty.now m c.in-Nominal.patterns)
    ∙ sym (ap (λ u. find_inner n g v u c.args.ty.now) c.in-Nominal.is) in
    subst (λ z. IfOk c.first_argument.result (λ r. r ≡ z)) e c.first_argument.ensures

pub in_inner-returns-in-None-2 : goal.in_inner-returns-in-None-2
in_inner-returns-in-None-2 t c =
    let n = table_of c.args.table.now in
    let g = held c.args.left.now c.args.row.now in
    let v = c.args.variable in
    let m = c.in-Nominal.target in
    let x = raised g (out-Ty c.args.ty.now) in
    let z = ancestor_is n m x ∙ ap or_none (sym c.in_ok-above-in-Nominal.ensures ∙ c.in-None-2.is) in
    sym (ap (λ u. find_inner n g v u c.args.ty.now) c.in-Nominal.is ∙ inner-find-nominal n g v c.args.ty.now m c.in-Nominal.patterns
    ∙ ap (first (map (find_arg v) c.in-Nominal.patterns)) z ∙ first-none (map (find_arg v) c.in-Nominal.patterns))
