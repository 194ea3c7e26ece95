use Rattle.jl_book.proofs.Shares.{each_once}
use Rattle.jl_book.proofs.laws.law_each_once.Goals as goal

pub returns : goal.returns
returns c = each_once
