use Rattle.std.proofs.Common.{subst}
use Rattle.std.specs.List.{Contains}
use Rattle.std.proofs.lemmas.Option.{slice_get_within}
use Rattle.jl_calculus.specs.Ranges.{rows_of}
use Rattle.jl_methods.specs.Newest.{IsNewestOf}
use Rattle.jl_world.proofs.Lists.{contains_at}
use Rattle.jl_rows.specs.Open.{IsOpenOf}
use Rattle.jl_rows.proofs.OpenLemmas.{newest_open}
use Rattle.jl_rows.proofs.RowReads.{newest_at, zero_is_open, other_is_cut}
use Rattle.jl_rows.proofs.rows.find_open.Goals as goal

pub returns-in_default-clause-found : goal.returns-in_default-clause-found
returns-in_default-clause-found g c =
    let P = g.N.Naming.about.program.value in
    let es = c.args.book.now.events in
    let none = subst (IsNewestOf (rows_of es) c.args.key) c.in_default.is (c.newest_row.ensures P es c.requires.index) in
    λ r free.
    let o = free.is_open in
    absurd (none o.row (contains_at (rows_of es) r o.row o.stands) free.of_key)

pub read-last-requires : goal.read-last-requires
read-last-requires g c =
    let P = g.N.Naming.about.program.value in
    let es = c.args.book.now.events in
    let n = subst (IsNewestOf (rows_of es) c.args.key) c.in-Some.is (c.newest_row.ensures P es c.requires.index) in
    slice_get_within (rows_of es) c.in-Some.newest.number n.row n.stands

pub returns-then-last-eq0-clause-found : goal.returns-then-last-eq0-clause-found
returns-then-last-eq0-clause-found g c =
    let P = g.N.Naming.about.program.value in
    let es = c.args.book.now.events in
    let newest = c.in-Some.newest in
    let n = subst (IsNewestOf (rows_of es) c.args.key) c.in-Some.is (c.newest_row.ensures P es c.requires.index) in
    zero_is_open P es c.args.book.now.cut c.args.key newest.number c.read-last.result c.requires.history.stand (newest_at es c.args.key newest n) c.read-last.ensures.word c.if-last-eq0.true

pub returns-clause-found : goal.returns-clause-found
returns-clause-found g c =
    let P = g.N.Naming.about.program.value in
    let es = c.args.book.now.events in
    let cut = c.args.book.now.cut in
    let newest = c.in-Some.newest in
    let n = subst (IsNewestOf (rows_of es) c.args.key) c.in-Some.is (c.newest_row.ensures P es c.requires.index) in
    λ r free.
    let same = newest_open P es c.requires.history.stand c.args.key r newest n free in
    subst (λ k. IsOpenOf P es c.args.key k → Contains cut k) same (other_is_cut P es cut c.args.key newest.number c.read-last.result c.read-last.ensures.word c.if-last-eq0.false) free
