use Rattle.jl_sig.proofs.FieldSigLemmas.{Front}
use Rattle.jl_sig.proofs.field_sigs.field_sigs.Given as goal

abbrev pub invariant-loop-name : goal.invariant-loop-name
invariant-loop-name l = Front l.table l.called l.name l.sigs.items
