use Rattle.std.proofs.Common.{length}
use Rattle.jl_model.specs.Valid.{is_known, is_closed, is_counted}
use Rattle.jl_types.proofs.PartsLemmas.{known_parts, closed_parts, counted_parts}
use Rattle.jl_types.proofs.normal_form.normal.Goals as goal

pub returns-clause-known : goal.returns-clause-known
returns-clause-known c = let m = length c.args.table.now in c.in_ok-form.ensures.kept (is_known m) (known_parts m) c.requires

pub returns-clause-closed : goal.returns-clause-closed
returns-clause-closed c = c.in_ok-form.ensures.kept is_closed closed_parts

pub returns-clause-counted : goal.returns-clause-counted
returns-clause-counted c = λ ds. c.in_ok-form.ensures.kept (is_counted ds) (counted_parts ds)
