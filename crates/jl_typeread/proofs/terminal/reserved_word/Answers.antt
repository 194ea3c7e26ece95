use Rattle.std.proofs.Common.{◌∙◌, sym}
use Rattle.jl_typeread.proofs.Reserved.{not_reserved}
use Rattle.jl_typeread.proofs.terminal.reserved_word.Goals as goal

pub returns-then-not-may_be_reserved : goal.returns-then-not-may_be_reserved
returns-then-not-may_be_reserved c = sym (not_reserved c.args.word.now (sym c.may_be_reserved.ensures ∙ c.if-not-may_be_reserved.true))
