use Rattle.jl_calculus.proofs.BetweenLemmas.{choice_after, choice_before, row_tells, row_made}
use Rattle.jl_calculus.proofs.history_laws.law_rows_tell_the_choice.Goals as goal

pub returns : goal.returns
returns c = record { choice = λ P valid es key first w proper h o. (choice_after P valid es key proper first w h o, choice_before P valid es key proper first w h o); site = row_tells; right = row_made }
