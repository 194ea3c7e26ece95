use Rattle.std.proofs.Common.{sym, ap, ◌∙◌}
use Rattle.jl_print.specs.Spelling.{operator_text}
use Rattle.jl_print.proofs.EscapeText.{divide_bytes}
use Rattle.jl_print.proofs.print_text.operator_text.Goals as goal

pub returns-in-Divide : goal.returns-in-Divide
returns-in-Divide c = sym (ap operator_text c.in-Divide.is ∙ divide_bytes)
