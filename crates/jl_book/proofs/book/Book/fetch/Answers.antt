use Rattle.std.proofs.Common.{◌∙◌, ap, sym, subst}
use Rattle.jl_calculus.specs.Past.{done_of}
use Rattle.jl_calculus.specs.ValidHistory.{IsValidOutcome}
use Rattle.jl_book.proofs.Valid.{record_valid}
use Rattle.jl_book.proofs.book.Book.fetch.Goals as goal

pub returns-clause-valid : goal.returns-clause-valid
returns-clause-valid g c =
    let P = g.N.Naming.about.program.value in
    let h = c.self.invariant in
    let at = ap (done_of c.args.of) (sym (c.as_slice.ensures.value ∙ h.keeps)) ∙ c.in-Some.ensures in
    subst (IsValidOutcome P) (sym c.in-Ok.ensures) (record_valid P c.args.of c.self.inside.seat.events c.in-Some.ended.now h.book.valid at).outcome
