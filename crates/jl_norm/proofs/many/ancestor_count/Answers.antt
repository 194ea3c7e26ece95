use Rattle.std.proofs.Common.{sym, ap, length, arith}
use Rattle.jl_norm.proofs.AncestorLemmas.{ancestors_none}
use Rattle.jl_norm.proofs.many.ancestor_count.Goals as goal

pub returns-else-name-count : goal.returns-else-name-count
returns-else-name-count c = sym (ap length (ancestors_none c.args.table.now c.args.decl.now c.in-Nominal.name c.in-Nominal.field-1 c.in-Nominal.is (omega arith)))
