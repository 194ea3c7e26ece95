use Rattle.std.proofs.Common.{arith}
use Rattle.jl_token.proofs.Whole.{source-only, given-end}
use Rattle.jl_token.proofs.source.tokens.Goals as goal

pub returns-clause-only : goal.returns-clause-only
returns-clause-only c = source-only c.args.source.now c.read_bytes.result (omega arith) c.read_bytes.ensures.reads

pub returns-clause-end : goal.returns-clause-end
returns-clause-end c = given-end c.args.source.now c.read_bytes.result c.read_bytes.ensures.reads
