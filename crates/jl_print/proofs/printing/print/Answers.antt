use Rattle.jl_print.proofs.ItemsShown.{prints_back_if}
use Rattle.jl_print.proofs.printing.print.Goals as goal

pub returns-clause-reads_back : goal.returns-clause-reads_back
returns-clause-reads_back c = prints_back_if c.script_text.result c.args.script.now c.script_text.ensures
