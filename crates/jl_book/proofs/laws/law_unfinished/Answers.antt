use Rattle.jl_book.proofs.Counting.{running_counts, none_counts}
use Rattle.jl_calculus.specs.Past.{tasks_of}
use Rattle.jl_book.proofs.laws.law_unfinished.Goals as goal

pub returns-clause-running : goal.returns-clause-running
returns-clause-running c = running_counts

pub returns-clause-none : goal.returns-clause-none
returns-clause-none c = λ es h t l. none_counts (tasks_of es) t es l h
