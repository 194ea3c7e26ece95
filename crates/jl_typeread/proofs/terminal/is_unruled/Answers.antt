use Rattle.std.proofs.Common.{◌∙◌, arith}
use Rattle.jl_token.proofs.Reserved.{longer, of_length}
use Rattle.jl_typeread.specs.Lexemes.{unruled_words}
use Rattle.jl_typeread.proofs.terminal.is_unruled.Goals as goal

pub returns-in-3 : goal.returns-in-3
returns-in-3 c = c.contains-in-3.ensures.value ∙ of_length unruled_words c.args.word.now 3 c.in-3.is

pub returns-in-4 : goal.returns-in-4
returns-in-4 c = of_length unruled_words c.args.word.now 4 c.in-4.is

pub returns-in-5 : goal.returns-in-5
returns-in-5 c = c.contains-in-5.ensures.value ∙ of_length unruled_words c.args.word.now 5 c.in-5.is

pub returns-in-6 : goal.returns-in-6
returns-in-6 c = c.contains-in-6.ensures.value ∙ of_length unruled_words c.args.word.now 6 c.in-6.is

pub returns-in-7 : goal.returns-in-7
returns-in-7 c = c.contains-in-7.ensures.value ∙ of_length unruled_words c.args.word.now 7 c.in-7.is

pub returns-in_default : goal.returns-in_default
returns-in_default c = c.contains-in_default.ensures.value ∙ longer unruled_words c.args.word.now 7 (let no = c.in_default in omega (arith, no))
