use Rattle.jl_book.proofs.making.cut_touched.Goals as goal

pub returns-clause-cut : goal.returns-clause-cut
returns-clause-cut g c =
    let P = g.N.Naming.about.program.value in
    let es = c.args.book.now.events in
    c.cut_rows.ensures.cut c.args.change (c.touched.ensures P es c.requires.index)
