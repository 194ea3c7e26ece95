use Rattle.std.proofs.Common.{◌∷◌, ◌++◌, sym, ap, ◌∙◌}
use Rattle.std.specs.Str.{chars}
use Rattle.jl_token.specs.Reading.{word}
use Rattle.jl_token.proofs.WordText.{word-split}
use Rattle.jl_token.proofs.pieces.identifier.Goals as goal

pub returns-clause-word : goal.returns-clause-word
returns-clause-word c = λ first split.
    let rest = chars c.args.rest.now in
    c.in_ok-bytes_before.ensures (first ∷ word rest) (split ∙ ap (λ l. first ∷ l) (sym (word-split rest) ∙ ap (λ l. word rest ++ l) (sym c.after_word-after.ensures.rest)))
