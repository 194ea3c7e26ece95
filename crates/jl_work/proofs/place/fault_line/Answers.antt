use Rattle.std.proofs.Common.{ap, ◌∙◌, ◌+◌, ◌++◌, codes, List, ℕ, []}
use Rattle.jl_work.specs.Place.{newlines, characters, last_line, line_at, column_at}
use Rattle.jl_work.proofs.PlaceLemmas.{joined}
use Rattle.jl_work.proofs.place.fault_line.Goals as goal

pub returns : goal.returns
returns c =
    joined c.into_shared.result c.append.new.self c.append_number.new.out c.append-2.new.self c.append_number-2.new.out c.append-3.new.self c.append-4.new.self c.append-5.new.self
    (codes "ERROR: line ") (codes ", column ") (codes ": ") c.args.name.now (codes "\n")
    c.line_behind.result (line_at c.args.bytes.now c.args.at) c.column_behind.result (column_at c.args.bytes.now c.args.at)
    (c.line_behind.ensures ∙ ap (λ (bs : List ℕ). 1 + newlines bs) c.bytes_before-before.ensures)
    (c.column_behind.ensures ∙ ap (λ (bs : List ℕ). 1 + characters (last_line [] bs)) c.bytes_before-before.ensures)
    (c.in_ok-append.ensures ∙ ap (λ (out : List ℕ). out ++ codes "ERROR: line ") c.new-out.ensures) c.in_ok-append_number.ensures c.in_ok-append-2.ensures c.in_ok-append_number-2.ensures c.in_ok-append-3.ensures c.in_ok-append-4.ensures c.in_ok-append-5.ensures
    c.into_shared.ensures
