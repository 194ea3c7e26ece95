use Rattle.jl_norm.proofs.ToldLemmas.{types_sized, told, right_as_written}
use Rattle.jl_norm.proofs.kept.kept.Goals as goal

pub is_broken-requires-clause-sized : goal.is_broken-requires-clause-sized
is_broken-requires-clause-sized c = types_sized c.args.table.now c.args.decl.now c.in-Ok.ensures.written_sized

pub is_broken-requires-clause-kept_sized : goal.is_broken-requires-clause-kept_sized
is_broken-requires-clause-kept_sized c = types_sized c.args.table.now c.in-Ok.kept c.in-Ok.ensures.sized

pub returns-in-Ok-is_broken : goal.returns-in-Ok-is_broken
returns-in-Ok-is_broken c = told c.args.table.now c.args.decl.now c.in-Ok.kept c.valid.ensures c.requires c.in-Ok.ensures c.in-Ok-is_broken.is_broken c.in-Ok-is_broken.ensures.judged

pub returns : goal.returns
returns c = right_as_written c.args.table.now c.args.decl.now c.requires (types_sized c.args.table.now c.args.decl.now c.in-Ok.ensures.written_sized)
