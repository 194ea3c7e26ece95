use Rattle.std.proofs.Common.{◌∙◌, sym, ap, subst, arith}
use Rattle.jl_model.specs.Ancestors.{table_of}
use Rattle.jl_model.specs.Subtype.{opaque}
use Rattle.jl_model.specs.Found.{found}
use Rattle.jl_match.specs.KeptRow.{row_of}
use Rattle.jl_search.proofs.WalkLemmas.{values_found}
use Rattle.jl_search.proofs.ValueLemmas.{Gives, gives_push}
use Rattle.jl_match.proofs.values.plain_values.Goals as goal

pub loop-variable-preserved : goal.loop-variable-preserved
loop-variable-preserved c =
    let f = found (table_of c.args.table.now) opaque c.args.signature.now (row_of c.args.parts.now c.args.chosen.now) c.args.types.now in
    record {
      so_far = subst (Gives f) (sym c.in_ok-push.ensures.items)
          (gives_push f c.loop-variable.values.items c.in_ok-value_of.field-0 c.loop-variable.invariant.so_far (c.in_ok-value_of.ensures ∙ sym (ap f c.loop-variable.invariant.long)));
      long = grind (arith, c.in_ok-push.ensures.items, c.loop-variable.invariant.long);
    }

pub returns-clause-found : goal.returns-clause-found
returns-clause-found c =
    values_found (table_of c.args.table.now) opaque c.args.signature.now (row_of c.args.parts.now c.args.chosen.now) c.args.types.now c.loop-variable.values.items
    (omega (arith, c.loop-variable.invariant.long, c.loop-variable-test.false, c.requires.diagonals.long, c.loop-variable.auto.variable-end)) c.loop-variable.invariant.so_far
