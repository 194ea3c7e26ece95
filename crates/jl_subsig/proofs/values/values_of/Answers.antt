use Rattle.std.proofs.Common.{◌≡◌, ◌∙◌, sym, ap, subst, arith, length}
use Rattle.jl_model.specs.Ancestors.{table_of}
use Rattle.jl_model.specs.Found.{found}
use Rattle.jl_model.specs.Rows.{width}
use Rattle.jl_subsig.specs.Side.{row_of, held, sided}
use Rattle.jl_search.proofs.ValueLemmas.{Gives, gives_push}
use Rattle.jl_subsig.proofs.ValueSteps.{gives_found}
use Rattle.jl_subsig.proofs.values.values_of.Goals as goal

pub loop-variable-preserved : goal.loop-variable-preserved
loop-variable-preserved c =
    let f = found (table_of c.args.table.now) (held c.args.left.now c.args.row.now) (sided c.args.right.now) (row_of c.args.other.now) c.args.row.now.parts in
    record {
      so_far = subst (Gives f) (sym c.in_ok-push.ensures.items)
          (gives_push f c.loop-variable.values.items c.in_ok-value_of.field-0 c.loop-variable.invariant.so_far (c.in_ok-value_of.ensures ∙ sym (ap f c.loop-variable.invariant.long)));
      long = grind (arith, c.in_ok-push.ensures.items, c.loop-variable.invariant.long);
    }

pub returns-clause-found : goal.returns-clause-found
returns-clause-found c =
    let e : length c.bounds-variable-end.result.now ≡ width (sided c.args.right.now) = ap length c.bounds-variable-end.ensures in
    let i = c.loop-variable.invariant.long in
    let l = c.loop-variable-test.false in
    let m = c.loop-variable.auto.variable-end in
    gives_found c.args.table.now c.valid.ensures c.args.left.now c.args.row.now c.requires.left c.args.right.now c.args.other.now c.requires.right c.loop-variable.values.items (omega (arith, e, i, l, m)) c.loop-variable.invariant.so_far
