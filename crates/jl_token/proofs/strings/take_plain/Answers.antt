use Rattle.std.proofs.Common.{◌++◌, ◌∙◌, ap, false}
use Rattle.std.specs.Str.{chars}
use Rattle.jl_token.specs.Characters.{has_first}
use Rattle.jl_token.specs.Grammar.{is_plain}
use Rattle.jl_token.specs.Reading.{after_string}
use Rattle.jl_token.proofs.StringText.{run-takes, run-ends, run-stops}
use Rattle.jl_token.proofs.strings.take_plain.Goals as goal

pub returns-clause-bytes : goal.returns-clause-bytes
returns-clause-bytes c =
    let so_far = c.args.meant.now.items in
    run-takes so_far c.extend_from_slice.new.self.items c.args.text.now c.after_plain-rest.result.now c.utf8.text c.after_plain-rest.utf8 c.after_plain-rest.ensures.rest
    (c.in_ok-extend_from_slice.ensures.items ∙ ap (λ l. so_far ++ l) c.front.ensures)

pub returns-clause-end : goal.returns-clause-end
returns-clause-end c = ap (after_string false) c.after_plain-rest.ensures.rest ∙ run-ends (chars c.args.text.now)

pub returns-clause-stops : goal.returns-clause-stops
returns-clause-stops c = ap (has_first is_plain) c.after_plain-rest.ensures.rest ∙ run-stops (chars c.args.text.now)
