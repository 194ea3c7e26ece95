use Rattle.std.proofs.Common.{◌≡◌, ◌++◌, map, drop}
use Rattle.jl_print.specs.Printed.{lines, field_terminals}
use Rattle.jl_print.proofs.print_items.put_fields.Given as goal

abbrev pub invariant-loop-field : goal.invariant-loop-field
invariant-loop-field l = l.out ++ lines (map field_terminals (drop l.field-index l.fields)) ≡ l.initial.out ++ lines (map field_terminals l.fields)
