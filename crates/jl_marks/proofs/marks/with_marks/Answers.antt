use Rattle.std.proofs.Common.{◌∙◌, ap}
use Rattle.jl_grammar.specs.Marks.{terminals}
use Rattle.jl_marks.specs.Pairs.{pair_marks}
use Rattle.jl_marks.specs.Scan.{all_marks}
use Rattle.jl_marks.proofs.PairLemmas.{paired}
use Rattle.jl_marks.proofs.marks.with_marks.Goals as goal

pub returns : goal.returns
returns c =
    c.new.ensures
    ∙ ap (λ x. pair_marks x c.args.lexemes.items) (c.in_ok-marks.ensures ∙ ap (λ ls. all_marks (terminals ls)) c.as_slice.ensures.value)
    ∙ paired c.args.lexemes.items
