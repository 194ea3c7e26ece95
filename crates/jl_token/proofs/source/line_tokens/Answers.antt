use Rattle.jl_token.proofs.Whole.{bytes-only, given-end}
use Rattle.jl_token.proofs.source.line_tokens.Goals as goal

pub returns-clause-only : goal.returns-clause-only
returns-clause-only c = bytes-only c.args.text.now c.read_bytes.result c.read_bytes.ensures.reads

pub returns-clause-end : goal.returns-clause-end
returns-clause-end c = given-end c.args.text.now c.read_bytes.result c.read_bytes.ensures.reads
