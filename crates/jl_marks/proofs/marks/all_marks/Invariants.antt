use Rattle.std.proofs.Common.{◌≡◌, List, ◌++◌, length}
use Rattle.jl_typeread.specs.declared.terminal.Lexeme.{Lexeme}
use Rattle.jl_grammar.specs.Marks.{terminals}
use Rattle.jl_marks.specs.Scan.{scan_all}
use Rattle.jl_marks.proofs.marks.all_marks.Given as goal

-- the tokens that are left, and those of which all is known
abbrev pub invariant-loop-lexeme : goal.invariant-loop-lexeme
invariant-loop-lexeme l = (ls : List Lexeme) × (l.left ++ ls ≡ l.lexemes) × (l.scan ≡ scan_all (terminals ls))

abbrev pub decreases-loop-lexeme : goal.decreases-loop-lexeme
decreases-loop-lexeme l = length l.left
