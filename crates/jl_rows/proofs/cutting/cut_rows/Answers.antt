use Rattle.std.proofs.Common.{◌≡◌, ap, sym, subst, arith, ℕ, ◌⊎◌, ◌↔◌, List, get_or}
use Rattle.std.specs.List.{Contains}
use Rattle.jl_calculus.specs.declared.history.Event.{Event}
use Rattle.jl_world.specs.declared.view.BookView.{BookView}
use Rattle.jl_methods.specs.Indexed.{IsIndexOf}
use Rattle.jl_world.proofs.Bounds.{few_worlds}
use Rattle.jl_rows.specs.Open.{IsOpenOf}
use Rattle.jl_rows.proofs.CutLemmas.{cut_again, cut_more, all_cut}
use Rattle.jl_rows.proofs.cutting.cut_rows.Goals as goal

pub overflow_cast-world : goal.overflow_cast-world
overflow_cast-world g c =
    let P = g.N.Naming.about.program.value in
    let es = c.args.book.now.events in
    omega (arith, c.worlds-world.ensures P es c.requires.index, few_worlds P es c.requires.history.stand)

pub cut_row-requires-clause-index : goal.cut_row-requires-clause-index
cut_row-requires-clause-index g c =
    let events : c.loop-number.book.events ≡ c.args.book.now.events = ap (λ (b : BookView). b.events) c.loop-number.invariant.same in
    subst (λ (es : List Event). IsIndexOf g.N.Naming.about.program.value es c.args.index.now) (sym events) c.requires.index

pub loop-number-preserved : goal.loop-number-preserved
loop-number-preserved g c =
    let P = g.N.Naming.about.program.value in
    let numbers = c.args.touched.now in
    let i = c.loop-number.number-index in
    let old = c.loop-number.book in
    let new = c.cut_row.new.book in
    let events : old.events ≡ c.args.book.now.events = ap (λ (b : BookView). b.events) c.loop-number.invariant.same in
    record {
      same = cut_again new old c.args.book.now c.cut_row.ensures.same c.loop-number.invariant.same;
      cut = cut_more P c.args.book.now.events numbers old.cut new.cut i c.loop-number-test.true c.loop-number.invariant.cut
          (subst (λ (es : List Event). (r : ℕ) → Contains new.cut r ↔ (Contains old.cut r ⊎ IsOpenOf P es (get_or numbers i 0) r)) events c.cut_row.ensures.cut);
    }

pub returns-clause-cut : goal.returns-clause-cut
returns-clause-cut g c =
    λ change touched.
    all_cut g.N.Naming.about.program.value c.args.book.now.events c.args.touched.now c.loop-number.book.cut c.loop-number.number-index change (omega (arith, c.loop-number-test.false)) c.loop-number.invariant.cut touched
