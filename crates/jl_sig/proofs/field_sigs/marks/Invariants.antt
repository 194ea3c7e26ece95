use Rattle.jl_sig.proofs.FieldSigLemmas.{Marking}
use Rattle.jl_sig.proofs.field_sigs.marks.Given as goal

abbrev pub invariant-loop-name : goal.invariant-loop-name
invariant-loop-name l = Marking l.table l.called l.name-index l.marks.items
