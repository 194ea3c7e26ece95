use Rattle.std.proofs.Common.{◌≡◌, ◌++◌, true, drop}
use Rattle.jl_print.specs.Spelling.{text_from}
use Rattle.jl_print.proofs.print_text.put_terminals.Given as goal

abbrev pub invariant-loop-terminal : goal.invariant-loop-terminal
invariant-loop-terminal l = l.out ++ text_from l.free (drop l.terminal-index l.terminals) ≡ l.initial.out ++ text_from true l.terminals
