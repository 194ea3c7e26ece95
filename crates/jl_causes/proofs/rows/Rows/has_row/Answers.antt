use Rattle.std.proofs.Common.{subst}
use Rattle.jl_calculus.specs.Ranges.{rows_of}
use Rattle.jl_methods.specs.Newest.{IsNewestOf}
use Rattle.jl_causes.proofs.RowLemmas.{row_newest, no_newest}
use Rattle.jl_causes.proofs.rows.Rows.has_row.Goals as goal

pub returns-in_default : goal.returns-in_default
returns-in_default c = λ P es h.
    no_newest es c.args.key c.args.first (subst (IsNewestOf (rows_of es) c.args.key) c.in_default.is (c.newest_row.ensures P es h.indexed))

pub returns-then-newest-first : goal.returns-then-newest-first
returns-then-newest-first c = λ P es h.
    row_newest es c.args.key c.args.first c.in-Some.newest (subst (IsNewestOf (rows_of es) c.args.key) c.in-Some.is (c.newest_row.ensures P es h.indexed)) c.if-newest-first.true
