use Rattle.std.proofs.Common.{◌∙◌, ap, ◌++◌, codes, [], ◌∷◌, length}
use Rattle.jl_report.specs.HistoryText.{number_line, text_line, quoted, steps_of, step_lines, ending_of, ending_line}
use Rattle.jl_report.proofs.PieceLemmas.{after_three}
use Rattle.jl_report.proofs.entries.append_done.Goals as goal

pub returns : goal.returns
returns c =
    after_three c.append_ending.result c.args.out.now c.append_ending.new.out c.append_done_line.new.out c.append_steps.new.out c.append_quoted_line.new.out
    (number_line (codes "done") (c.args.task ∷ c.args.ended.now.calls ∷ length (steps_of c.args.ended.now.trace) ∷ []))
    (step_lines (steps_of c.args.ended.now.trace))
    (text_line (codes "output ") (quoted c.args.ended.now.output))
    (ending_line (ending_of c.args.program.now c.args.ended.now.outcome))
    c.in_ok-append_done_line.ensures (c.in_ok-append_steps.ensures ∙ ap (λ items. c.append_done_line.new.out ++ step_lines (steps_of items)) c.as_slice.ensures)
    (c.in_ok-append_quoted_line.ensures ∙ ap (λ bytes. c.append_steps.new.out ++ text_line (codes "output ") (quoted bytes)) c.as_slice-2.ensures)
    (rw c.get.ensures at c.append_ending.ensures)
