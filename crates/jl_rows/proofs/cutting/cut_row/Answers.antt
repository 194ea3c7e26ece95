use Rattle.std.proofs.Common.{◌∙◌, ap, ◌∷◌}
use Rattle.jl_world.specs.declared.view.BookView.{BookView}
use Rattle.jl_rows.proofs.CutLemmas.{one_cut, none_cut}
use Rattle.jl_rows.proofs.cutting.cut_row.Goals as goal

pub returns-in_default-clause-cut : goal.returns-in_default-clause-cut
returns-in_default-clause-cut g c =
    none_cut g.N.Naming.about.program.value c.args.book.now.events c.args.key c.args.book.now.cut c.find_open.new.book.cut
    (ap (λ (b : BookView). b.cut) c.find_open.ensures.same) c.in_default.ensures.found

pub returns-clause-cut : goal.returns-clause-cut
returns-clause-cut g c =
    one_cut g.N.Naming.about.program.value c.args.book.now.events c.requires.history.stand c.args.key c.in-Some.row c.args.book.now.cut c.cut.new.book.cut
    (ap (λ (b : BookView). b.cut) c.cut.ensures ∙ ap (λ (b : BookView). c.in-Some.row ∷ b.cut) c.find_open.ensures.same) c.in-Some.ensures.found
