use Rattle.std.proofs.Common.{codes, [], ◌∷◌, length}
use Rattle.jl_report.specs.HistoryText.{number_line, header, has_places, all_lines, entries_of}
use Rattle.jl_report.proofs.PieceLemmas.{after_two}
use Rattle.jl_report.proofs.entries.append_events.Goals as goal

pub returns : goal.returns
returns c =
    let es = entries_of c.args.program.now c.args.events.now in
    after_two c.append_end.result c.args.out.now c.append_end.new.out c.append_header.new.out c.append_entries.new.out
    (header (has_places c.args.program.now)) (all_lines es) (number_line (codes "end") (length es ∷ [])) c.in_ok-append_header.ensures c.in_ok-append_entries.ensures c.append_end.ensures
