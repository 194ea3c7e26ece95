use Rattle.std.proofs.Common.{◌≡◌, ◌+◌, ◌*◌, ◌++◌, map}
use Rattle.jl_program.specs.Meaning.{datum}
use Rattle.jl_program.specs.Measures.{nodes, nodes_all}
use Rattle.jl_program.specs.Text.{value_text}
use Rattle.jl_text.proofs.Joined.{rest}
use Rattle.jl_text.proofs.values.+values.Given as goal

abbrev pub decreases-append_value : goal.decreases-append_value
decreases-append_value l = 3 * nodes (datum l.value.now)

abbrev pub decreases-append_tuple : goal.decreases-append_tuple
decreases-append_tuple l = 3 * nodes_all (map datum l.parts.now) + 2

abbrev pub decreases-append_fields : goal.decreases-append_fields
decreases-append_fields l = 3 * nodes_all (map datum l.fields.now) + 2

abbrev pub decreases-append_joined : goal.decreases-append_joined
decreases-append_joined l = 3 * nodes_all (map datum l.values.now) + 1

abbrev pub invariant-append_joined-loop-i : goal.invariant-append_joined-loop-i
invariant-append_joined-loop-i l = l.out ++ rest (value_text l.program) l.values l.i ≡ l.initial.out ++ rest (value_text l.program) l.values 0
