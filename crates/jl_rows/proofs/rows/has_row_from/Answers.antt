use Rattle.std.proofs.Common.{sym, subst, true≢false}
use Rattle.jl_calculus.specs.Ranges.{rows_of}
use Rattle.jl_methods.specs.Newest.{IsNewestOf}
use Rattle.jl_rows.proofs.RowReads.{newest_from}
use Rattle.jl_rows.proofs.rows.has_row_from.Goals as goal

pub returns-in_default-clause-found : goal.returns-in_default-clause-found
returns-in_default-clause-found g c =
    let P = g.N.Naming.about.program.value in
    let es = c.args.book.now.events in
    let none = subst (IsNewestOf (rows_of es) c.args.key) c.in_default.is (c.newest_row.ensures P es c.requires.index) in (
      λ yes. absurd (true≢false (sym yes)),
      λ h. absurd (none h.row h.stands h.of_key),
    )

pub returns-then-newest-first-clause-found : goal.returns-then-newest-first-clause-found
returns-then-newest-first-clause-found g c =
    let P = g.N.Naming.about.program.value in
    let es = c.args.book.now.events in
    newest_from es c.args.key c.args.first c.in-Some.newest
    (subst (IsNewestOf (rows_of es) c.args.key) c.in-Some.is (c.newest_row.ensures P es c.requires.index)) c.if-newest-first.true
