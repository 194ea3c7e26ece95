use Rattle.jl_reflect.proofs.FormLemmas.{AreFirst}
use Rattle.jl_reflect.proofs.key_types.value_forms.Given as goal

abbrev pub invariant-loop-part : goal.invariant-loop-part
invariant-loop-part l = AreFirst l.table l.parts l.forms l.part-index
