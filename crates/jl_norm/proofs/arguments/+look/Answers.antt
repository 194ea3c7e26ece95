use Rattle.std.proofs.Common.{◌≡◌, ◌∙◌, ◌+◌, sym, ap, subst, Err, arith}
use Rattle.std.proofs.lemmas.List.{drop_all}
use Rattle.std.proofs.lemmas.Result.{err_from_is_err_and}
use Rattle.jl_types.specs.declared.normal_form.NormFault.TheVariants.{TypeLimit}
use Rattle.jl_model.specs.Counts.{nodes}
use Rattle.jl_model.proofs.CountLemmas.{nodes_all, nodes-at, nodes-union, nodes-tuple, nodes-nominal}
use Rattle.jl_norm.proofs.WalkLemmas.{Told, type_at, large_at, told_then, told_else, told_all, any_judged, var_judged, union_are, tuple_are, union_judged, tuple_judged, union_large, tuple_large, own_are, inner_are, nominal_then, nominal_else, own_large, inner_large}
use Rattle.jl_norm.proofs.arguments.+look.Goals.{is_any_outside-then-branch, is_any_outside-else-branch}
use Rattle.jl_norm.proofs.arguments.+look.Goals as goal

pub is_any_outside-is_outside_in-requires : goal.is_any_outside-is_outside_in-requires
is_any_outside-is_outside_in-requires t c =
    let xs = c.args.types.now in
    let i = c.loop-ty.ty-index in
    let x = c.ty-item.result in
    let n = nodes-at xs i x c.loop-ty-test.true c.ty-item.is in (
      omega (arith, n),
      (c.requires.written, (c.requires.is_kept, type_at c.args.table.now c.args.decl.now xs i x c.loop-ty-test.true c.ty-item.is c.requires.arguments_known)),
    )

pub is_any_outside-returns-in_err-is_outside_in-clause-limit : goal.is_any_outside-returns-in_err-is_outside_in-clause-limit
is_any_outside-returns-in_err-is_outside_in-clause-limit t c = λ e.
    let p = err_from_is_err_and c.from_residual.result c.from_residual.ensures.1 in
    let f : Err p.0 ≡ Err TypeLimit = sym p.1 ∙ e in
    let g : p.0 ≡ TypeLimit = cc in
    let w : c.is_outside_in.result ≡ Err TypeLimit = c.in_err-is_outside_in.was ∙ ap (λ z. Err z) (sym p.2 ∙ g) in
    large_at c.args.table.now c.args.decl.now c.args.types.now c.loop-ty.ty-index c.ty-item.result c.loop-ty-test.true c.ty-item.is (c.is_outside_in.ensures.limit w)

pub is_any_outside-loop-ty-preserved : goal.is_any_outside-loop-ty-preserved
is_any_outside-loop-ty-preserved t c =
    let ds = c.args.table.now in
    let d = c.args.decl.now in
    let xs = c.args.types.now in
    let i = c.loop-ty.ty-index in
    let b = c.loop-ty.is_outside in
    let h = c.in_ok-is_outside_in.field-0 in
    elim c.if-branch.branch [
      | is_any_outside-then-branch w ↦
          subst (λ z. Told ds d xs (i + 1) z) (sym w.is_outside-is) (told_then ds d xs i c.ty-item.result b h c.loop-ty-test.true c.ty-item.is c.loop-ty.invariant c.in_ok-is_outside_in.ensures.judged w.if-branch.true)
      | is_any_outside-else-branch w ↦
          subst (λ z. Told ds d xs (i + 1) z) (sym w.is_outside-is) (told_else ds d xs i c.ty-item.result b h c.loop-ty-test.true c.ty-item.is c.loop-ty.invariant c.in_ok-is_outside_in.ensures.judged w.if-branch.false)
    ]

pub is_any_outside-returns-clause-judged : goal.is_any_outside-returns-clause-judged
is_any_outside-returns-clause-judged t c =
    told_all c.args.table.now c.args.decl.now c.args.types.now c.loop-ty.ty-index c.loop-ty.is_outside (drop_all c.loop-ty.ty-index c.args.types.now c.loop-ty-test.false) c.loop-ty.invariant

pub is_outside_in-is_one_outside-requires-clause-arguments_known : goal.is_outside_in-is_one_outside-requires-clause-arguments_known
is_outside_in-is_one_outside-requires-clause-arguments_known t c =
    own_are c.args.table.now c.args.decl.now c.args.ty.now c.in-Nominal.name c.in-Nominal.arguments c.as_slice-arguments.result.now c.in-Nominal.is c.as_slice-arguments.ensures c.requires.arguments_known

pub is_outside_in-returns-in_err-own-in-Nominal-clause-limit : goal.is_outside_in-returns-in_err-own-in-Nominal-clause-limit
is_outside_in-returns-in_err-own-in-Nominal-clause-limit t c = λ e.
    let p = err_from_is_err_and c.from_residual.result c.from_residual.ensures.1 in
    let f : Err p.0 ≡ Err TypeLimit = sym p.1 ∙ e in
    let g : p.0 ≡ TypeLimit = cc in
    let w : c.is_one_outside.result ≡ Err TypeLimit = c.in_err-own-in-Nominal.was ∙ ap (λ z. Err z) (sym p.2 ∙ g) in
    own_large c.args.table.now c.args.decl.now c.args.ty.now c.in-Nominal.name c.in-Nominal.arguments c.as_slice-arguments.result.now c.in-Nominal.is c.as_slice-arguments.ensures (c.is_one_outside.ensures.limit w)

pub is_outside_in-is_any_outside-requires-in-Nominal : goal.is_outside_in-is_any_outside-requires-in-Nominal
is_outside_in-is_any_outside-requires-in-Nominal t c =
    let e = ap nodes c.in-Nominal.is ∙ nodes-nominal c.in-Nominal.name c.in-Nominal.arguments in
    let f = ap nodes_all c.as_slice-arguments.ensures in (
      omega (arith, e, f),
      (
        c.requires.written,
        (c.requires.is_kept, inner_are c.args.table.now c.args.decl.now c.args.ty.now c.in-Nominal.name c.in-Nominal.arguments c.as_slice-arguments.result.now c.in-Nominal.is c.as_slice-arguments.ensures c.requires.arguments_known),
      ),
    )

pub is_outside_in-returns-in_err-inner-in-Nominal-clause-limit : goal.is_outside_in-returns-in_err-inner-in-Nominal-clause-limit
is_outside_in-returns-in_err-inner-in-Nominal-clause-limit t c = λ e.
    let p = err_from_is_err_and c.from_residual-in_err-inner-in-Nominal.result c.from_residual-in_err-inner-in-Nominal.ensures.1 in
    let f : Err p.0 ≡ Err TypeLimit = sym p.1 ∙ e in
    let g : p.0 ≡ TypeLimit = cc in
    let w : c.is_any_outside-in-Nominal.result ≡ Err TypeLimit = c.in_err-inner-in-Nominal.was ∙ ap (λ z. Err z) (sym p.2 ∙ g) in
    inner_large c.args.table.now c.args.decl.now c.args.ty.now c.in-Nominal.name c.in-Nominal.arguments c.as_slice-arguments.result.now c.in-Nominal.is c.as_slice-arguments.ensures (c.is_any_outside-in-Nominal.ensures.limit w)

pub is_outside_in-returns-in-Any-clause-judged : goal.is_outside_in-returns-in-Any-clause-judged
is_outside_in-returns-in-Any-clause-judged t c = any_judged c.args.table.now c.args.decl.now c.args.ty.now c.in-Any.is

pub is_outside_in-returns-then-own-clause-judged : goal.is_outside_in-returns-then-own-clause-judged
is_outside_in-returns-then-own-clause-judged t c =
    nominal_then c.args.table.now c.args.decl.now c.args.ty.now c.in-Nominal.name c.in-Nominal.arguments c.as_slice-arguments.result.now c.in-Nominal.is c.as_slice-arguments.ensures c.in_ok-own-in-Nominal.own c.in_ok-inner-in-Nominal.inner
    c.in_ok-own-in-Nominal.ensures.judged c.in_ok-inner-in-Nominal.ensures.judged c.if-own.true

pub is_outside_in-returns-else-own-clause-judged : goal.is_outside_in-returns-else-own-clause-judged
is_outside_in-returns-else-own-clause-judged t c =
    nominal_else c.args.table.now c.args.decl.now c.args.ty.now c.in-Nominal.name c.in-Nominal.arguments c.as_slice-arguments.result.now c.in-Nominal.is c.as_slice-arguments.ensures c.in_ok-own-in-Nominal.own c.in_ok-inner-in-Nominal.inner
    c.in_ok-own-in-Nominal.ensures.judged c.in_ok-inner-in-Nominal.ensures.judged c.if-own.false

pub is_outside_in-returns-in-Var-clause-judged : goal.is_outside_in-returns-in-Var-clause-judged
is_outside_in-returns-in-Var-clause-judged t c = var_judged c.args.table.now c.args.decl.now c.args.ty.now c.in-Var.field-0 c.in-Var.is

pub is_outside_in-is_any_outside-requires : goal.is_outside_in-is_any_outside-requires
is_outside_in-is_any_outside-requires t c =
    let ts = c.in-Union.members in
    let e = ap nodes c.in-Union.is ∙ nodes-union ts in
    let f = ap nodes_all c.as_slice.ensures in (
      omega (arith, e, f),
      (c.requires.written, (c.requires.is_kept, union_are c.args.table.now c.args.decl.now c.args.ty.now ts c.as_slice.result.now c.in-Union.is c.as_slice.ensures c.requires.arguments_known)),
    )

pub is_outside_in-returns-in-Union-clause-judged : goal.is_outside_in-returns-in-Union-clause-judged
is_outside_in-returns-in-Union-clause-judged t c =
    union_judged c.args.table.now c.args.decl.now c.args.ty.now c.in-Union.members c.as_slice.result.now c.in-Union.is c.as_slice.ensures c.is_any_outside.result c.is_any_outside.ensures.judged

pub is_outside_in-returns-in-Union-clause-limit : goal.is_outside_in-returns-in-Union-clause-limit
is_outside_in-returns-in-Union-clause-limit t c = λ e.
    union_large c.args.table.now c.args.decl.now c.args.ty.now c.in-Union.members c.as_slice.result.now c.in-Union.is c.as_slice.ensures (c.is_any_outside.ensures.limit e)

pub is_outside_in-is_any_outside-requires-in-Tuple : goal.is_outside_in-is_any_outside-requires-in-Tuple
is_outside_in-is_any_outside-requires-in-Tuple t c =
    let ts = c.in-Tuple.parts in
    let e = ap nodes c.in-Tuple.is ∙ nodes-tuple ts in
    let f = ap nodes_all c.as_slice-in-Tuple.ensures in (
      omega (arith, e, f),
      (c.requires.written, (c.requires.is_kept, tuple_are c.args.table.now c.args.decl.now c.args.ty.now ts c.as_slice-in-Tuple.result.now c.in-Tuple.is c.as_slice-in-Tuple.ensures c.requires.arguments_known)),
    )

pub is_outside_in-returns-in-Tuple-clause-judged : goal.is_outside_in-returns-in-Tuple-clause-judged
is_outside_in-returns-in-Tuple-clause-judged t c =
    tuple_judged c.args.table.now c.args.decl.now c.args.ty.now c.in-Tuple.parts c.as_slice-in-Tuple.result.now c.in-Tuple.is c.as_slice-in-Tuple.ensures c.is_any_outside-in-Tuple.result c.is_any_outside-in-Tuple.ensures.judged

pub is_outside_in-returns-in-Tuple-clause-limit : goal.is_outside_in-returns-in-Tuple-clause-limit
is_outside_in-returns-in-Tuple-clause-limit t c = λ e.
    tuple_large c.args.table.now c.args.decl.now c.args.ty.now c.in-Tuple.parts c.as_slice-in-Tuple.result.now c.in-Tuple.is c.as_slice-in-Tuple.ensures (c.is_any_outside-in-Tuple.ensures.limit e)
