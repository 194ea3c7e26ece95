use Rattle.std.proofs.Common.{◌≡◌, ◌∙◌, ◌<◌, sym, ap, subst, refl, length, get_or, drop, [], true, false}
use Rattle.std.proofs.lemmas.List.{drop_all}
use Rattle.jl_model.specs.Ancestors.{table_of}
use Rattle.jl_norm.proofs.CrossLemmas.{Crossed, crossed_none, crossed_at, crossed_later, bounds_ground, crossed_kept, crossed_written}
use Rattle.jl_norm.proofs.kept.is_crossed.Goals as goal

pub ground_sub-requires-clause-a_ground : goal.ground_sub-requires-clause-a_ground
ground_sub-requires-clause-a_ground c =
    let e = c.as_slice-bound-items.ensures in
    let i = c.loop-bound.bound-index in
    let b = c.bound-item.result in
    (bounds_ground c.args.table.now c.args.decl.now c.valid.ensures c.requires.written c.args.kept.now.params c.requires.is_kept.params i b (subst (λ z. i < length z) e c.loop-bound-test.true) (c.bound-item.is ∙ ap (λ z. get_or z i b) e)).0

pub ground_sub-requires-clause-b_ground : goal.ground_sub-requires-clause-b_ground
ground_sub-requires-clause-b_ground c =
    let e = c.as_slice-bound-items.ensures in
    let i = c.loop-bound.bound-index in
    let b = c.bound-item.result in
    (bounds_ground c.args.table.now c.args.decl.now c.valid.ensures c.requires.written c.args.kept.now.params c.requires.is_kept.params i b (subst (λ z. i < length z) e c.loop-bound-test.true) (c.bound-item.is ∙ ap (λ z. get_or z i b) e)).1

pub returns-then-not-ground_sub : goal.returns-then-not-ground_sub
returns-then-not-ground_sub c =
    let e = c.as_slice-bound-items.ensures in
    let i = c.loop-bound.bound-index in
    let b = c.bound-item.result in
    let ps = c.args.kept.now.params in (
      (λ h.
          crossed_written c.args.table.now c.args.decl.now c.valid.ensures c.requires.written ps c.requires.is_kept.params
          (crossed_at (table_of c.args.table.now) ps i b (subst (λ z. i < length z) e c.loop-bound-test.true) (c.bound-item.is ∙ ap (λ z. get_or z i b) e)
          (λ s.
          let t : c.ground_sub.result ≡ true = c.ground_sub.ensures.1 s in
          let f : c.ground_sub.result ≡ false = c.if-not-ground_sub.true in
          cc))),
      (λ h. refl),
    )

pub loop-bound-preserved : goal.loop-bound-preserved
loop-bound-preserved c = λ h.
    let e = c.as_slice-bound-items.ensures in
    let i = c.loop-bound.bound-index in
    let b = c.bound-item.result in
    crossed_later (table_of c.args.table.now) c.args.kept.now.params i b (subst (λ z. i < length z) e c.loop-bound-test.true) (c.bound-item.is ∙ ap (λ z. get_or z i b) e)
    (c.ground_sub.ensures.0 c.if-not-ground_sub.false) (c.loop-bound.invariant h)

pub returns : goal.returns
returns c =
    let n = table_of c.args.table.now in
    let ps = c.args.kept.now.params in
    let e : drop c.loop-bound.bound-index c.as_slice-bound-items.result.now ≡ [] = drop_all c.loop-bound.bound-index c.as_slice-bound-items.result.now c.loop-bound-test.false in
    let f : drop c.loop-bound.bound-index ps ≡ [] = ap (drop c.loop-bound.bound-index) (sym c.as_slice-bound-items.ensures) ∙ e in (
      (λ h. let g : false ≡ true = h in cc),
      (λ h. absurd (crossed_none n (subst (Crossed n) f (c.loop-bound.invariant (crossed_kept c.args.table.now c.args.decl.now c.valid.ensures c.requires.written ps c.requires.is_kept.params h))))),
    )
