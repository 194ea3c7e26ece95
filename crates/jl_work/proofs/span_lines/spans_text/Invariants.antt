use Rattle.std.proofs.Common.{◌≡◌, ◌++◌, drop}
use Rattle.jl_work.specs.Told.{spans_text}
use Rattle.jl_work.proofs.span_lines.spans_text.Given as goal

abbrev pub invariant-loop-span : goal.invariant-loop-span
invariant-loop-span l = l.out ++ spans_text (drop l.span-index l.spans) ≡ spans_text l.spans
