use Rattle.std.proofs.Common.{map}
use Rattle.jl_model.specs.Ancestors.{table_of}
use Rattle.jl_sig.specs.Built.{listed}
use Rattle.jl_sig.proofs.BuildLemmas.{many_told}
use Rattle.jl_sig.proofs.many.has_many_rows.Goals as goal

pub returns : goal.returns
returns c = many_told (table_of c.args.table.now) c.args.written.now c.in_ok-rows.rows (λ rows. map listed rows.items) c.is_none.result c.in_ok-rows.ensures c.is_none.ensures
