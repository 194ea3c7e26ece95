use Rattle.std.proofs.Common.{◌∙◌, ◌<◌, ap, subst, arith, length, get_or}
use Rattle.jl_model.specs.declared.ty.Bound.{Bound}
use Rattle.jl_model.specs.Ancestors.{table_of}
use Rattle.jl_sig.specs.Forms.{IsBoundForm}
use Rattle.jl_sig.specs.declared.kind.Kind.TheVariants.{Unused}
use Rattle.jl_sig.proofs.RowLemmas.{kinds_long, kind_at}
use Rattle.jl_sig.proofs.PickLemmas.{lows_long, low_form, high_fit, picks_step, push_long}
use Rattle.jl_sig.proofs.variables.picks.Goals as goal

pub bounds-kinds-variable : goal.bounds-kinds-variable
bounds-kinds-variable c =
    let k = kinds_long c.args.written.now c.args.kinds.now c.requires.kinds in
    let e = ap (λ z. length z) c.as_slice-vars.ensures in
    omega (arith, k, e, c.loop-variable-test.true)

pub bounds-bounds-variable : goal.bounds-bounds-variable
bounds-bounds-variable c =
    let k = lows_long (IsBoundForm c.args.table.now) c.args.written.now.vars c.args.bounds.now c.requires.forms in
    let e = ap (λ z. length z) c.as_slice-vars.ensures in
    omega (arith, k, e, c.loop-variable-test.true)

pub own_picks-requires-clause-high : goal.own_picks-requires-clause-high
own_picks-requires-clause-high c =
    let e = c.as_slice-vars.ensures in
    let i = c.loop-variable.variable in
    let b = c.index-vars-variable.result in
    high_fit c.args.table.now c.args.written.now i b (subst (λ z. i < length z) e c.loop-variable-test.true) (c.index-vars-variable.is ∙ ap (λ z. get_or z i b) e) c.requires.fit

pub own_picks-requires-clause-low : goal.own_picks-requires-clause-low
own_picks-requires-clause-low c =
    let e = c.as_slice-vars.ensures in
    let i = c.loop-variable.variable in
    let b = c.index-vars-variable.result in
    let r = c.index-bounds-variable.result in
    subst (λ (z : Bound). IsBoundForm c.args.table.now b.low z.low) c.index-bounds-variable.is
    (low_form (IsBoundForm c.args.table.now) c.args.written.now.vars c.args.bounds.now i b r c.requires.forms (subst (λ z. i < length z) e c.loop-variable-test.true) (c.index-vars-variable.is ∙ ap (λ z. get_or z i b) e) c.index-bounds-variable.is)

pub loop-variable-preserved : goal.loop-variable-preserved
loop-variable-preserved c =
    let e = c.as_slice-vars.ensures in
    let i = c.loop-variable.variable in
    let b = c.index-vars-variable.result in
    let s = c.args.written.now in
    let l = subst (λ z. i < length z) e c.loop-variable-test.true in
    record {
      many = push_long c.loop-variable.picks.items c.push.new.self.items c.in_ok-own_picks.field-0 i c.in_ok-push.ensures.items c.loop-variable.invariant.many;
      picked = picks_step (table_of c.args.table.now) s i b c.in_ok-own_picks.field-0 c.loop-variable.picks.items c.push.new.self.items l (c.index-vars-variable.is ∙ ap (λ z. get_or z i b) e)
          (λ k. c.in_ok-own_picks.ensures (kind_at s c.args.kinds.now i Unused c.requires.kinds l ∙ k)) c.in_ok-push.ensures.items c.loop-variable.invariant.many c.loop-variable.invariant.picked;
    }
