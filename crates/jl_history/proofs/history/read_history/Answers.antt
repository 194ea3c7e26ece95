use Rattle.jl_history.proofs.WholeLemmas.{only_read, only_bad}
use Rattle.jl_history.proofs.history.read_history.Goals as goal

pub returns-clause-reads : goal.returns-clause-reads
returns-clause-reads c = only_read c.args.places c.args.text.now c.read_lines.result c.read_lines.ensures

pub returns-clause-refuses : goal.returns-clause-refuses
returns-clause-refuses c = only_bad c.args.places c.args.text.now c.read_lines.result c.read_lines.ensures
