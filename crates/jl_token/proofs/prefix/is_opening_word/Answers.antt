use Rattle.std.proofs.Common.{◌∙◌, refl, sym}
use Rattle.jl_token.specs.Prefix.{opening_words}
use Rattle.jl_token.proofs.Reserved.{not_in}
use Rattle.jl_token.proofs.prefix.is_opening_word.Goals as goal

pub returns-else-may_be_reserved : goal.returns-else-may_be_reserved
returns-else-may_be_reserved c = c.if-may_be_reserved.false ∙ sym (not_in opening_words c.args.word.now refl (sym c.may_be_reserved.ensures ∙ c.if-may_be_reserved.false))
