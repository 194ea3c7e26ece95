use Rattle.std.proofs.Common.{◌≡◌, ◌++◌, drop}
use Rattle.jl_print.specs.Spelling.{escape_text}
use Rattle.jl_print.proofs.print_text.put_escaped.Given as goal

abbrev pub invariant-loop-byte : goal.invariant-loop-byte
invariant-loop-byte l = l.out ++ escape_text (drop l.byte-index l.text) ≡ l.initial.out ++ escape_text l.text
