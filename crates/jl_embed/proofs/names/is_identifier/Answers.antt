use Rattle.std.proofs.Common.{◌∙◌, ap, sym, ◌&&◌}
use Rattle.std.specs.Str.{chars}
use Rattle.std.proofs.lemmas.Str.{is_utf8-from_IsUtf8}
use Rattle.jl_program.specs.Names.{is_word}
use Rattle.jl_embed.proofs.NumberLemmas.{not_utf8}
use Rattle.jl_embed.proofs.names.is_identifier.Goals as goal

pub returns-in-Ok : goal.returns-in-Ok
returns-in-Ok c =
    c.is_word.ensures ∙ ap (λ t. is_word (chars t)) c.in-Ok.ensures.cases.0
    ∙ ap (λ b. b && is_word (chars c.args.bytes.now)) (sym (is_utf8-from_IsUtf8 c.args.bytes.now c.in-Ok.ensures.cases.1))

pub returns-in-Err : goal.returns-in-Err
returns-in-Err c = ap (λ b. b && is_word (chars c.args.bytes.now)) (sym (not_utf8 c.args.bytes.now c.in-Err.ensures.cases.0))
