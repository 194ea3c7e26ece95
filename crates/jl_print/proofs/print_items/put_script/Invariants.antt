use Rattle.std.proofs.Common.{◌≡◌, ◌++◌, map, drop}
use Rattle.jl_print.specs.Printed.{lines, item_terminals}
use Rattle.jl_print.proofs.print_items.put_script.Given as goal

abbrev pub invariant-loop-item : goal.invariant-loop-item
invariant-loop-item l = l.out ++ lines (map item_terminals (drop l.item-index l.fn.script.items)) ≡ l.initial.out ++ lines (map item_terminals l.fn.script.items)
