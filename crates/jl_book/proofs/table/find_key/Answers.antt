use Rattle.std.proofs.Common.{◌∙◌, ap, sym, Some}
use Rattle.jl_book.proofs.Finding.{found_is, none_found}
use Rattle.jl_book.proofs.table.find_key.Goals as goal

pub returns-in-Some : goal.returns-in-Some
returns-in-Some c = c.in-Some.ensures.stored ∙ ap (λ k. Some k) (found_is c.args.key.now c.args.keys.now.keys _ (sym c.in-Some.ensures.key))

pub returns-in-None : goal.returns-in-None
returns-in-None c = none_found c.args.key.now c.args.keys.now.keys (sym c.in-None.ensures.found)
