use Rattle.std.proofs.Common.{codes, decimal}
use Rattle.jl_work.specs.Told.{last_text, choice_text}
use Rattle.jl_work.proofs.LineLemmas.{after_five}
use Rattle.jl_work.proofs.span_lines.append_span.Goals as goal

pub returns : goal.returns
returns c =
    after_five c.append-3.result c.args.out.now c.append-3.new.self c.append_world.new.out c.append.new.self c.append_last.new.out c.append-2.new.self c.append_choice.new.out
    (decimal c.args.span.first) (codes " ") (last_text c.args.span.last) (codes " ") (choice_text c.args.span.choice) (codes "\n")
    c.in_ok-append_world.ensures c.in_ok-append.ensures c.in_ok-append_last.ensures c.in_ok-append-2.ensures c.in_ok-append_choice.ensures c.append-3.ensures
