use Rattle.jl_history.proofs.EntryTexts.{legal_entries}
use Rattle.jl_history.proofs.legible.law_legal_is_read.Goals as goal

pub returns : goal.returns
returns c = legal_entries
