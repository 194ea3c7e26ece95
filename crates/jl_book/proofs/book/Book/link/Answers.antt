use Rattle.std.proofs.Common.{◌≡◌, ◌<◌, ◌∙◌, append-nil, ap, sym, subst, refl, arith, length, ◌++◌, ◌∷◌, []}
use Rattle.jl_calculus.specs.declared.history.Event.{Event}
use Rattle.jl_calculus.specs.declared.history.Event.TheVariants as Ev
use Rattle.jl_model.specs.declared.limits.TheConstants.{MOST_CACHE_ROWS}
use Rattle.jl_calculus.specs.Legal.{IsNewFill}
use Rattle.jl_calculus.specs.Ranges.{rows_of}
use Rattle.jl_methods.specs.Indexed.{IsIndexOf}
use Rattle.jl_world.specs.declared.view.BookView.{BookView}
use Rattle.jl_world.specs.Adds.{IsNextFill}
use Rattle.jl_world.specs.Rule.{IsHistory}
use Rattle.jl_world.specs.Views.{grown}
use Rattle.jl_book.specs.Books.{at_rest}
use Rattle.jl_book.proofs.Fills.{fill_valid}
use Rattle.jl_book.proofs.PartLemmas.{parts_added, parts_kept}
use Rattle.jl_book.proofs.book.Book.link.Goals as goal

pub reserve-requires : goal.reserve-requires
reserve-requires g c =
    let P = g.N.Naming.about.program.value in
    let es = c.self.inside.seat.events in
    let h = c.self.invariant in
    let fill = subst (λ xs. IsNextFill P xs c.args.key c.args.row.site c.args.row.first) (sym c.self.view_is) c.requires.fill in
    let free = subst (λ xs. length (rows_of xs) < g.N.Naming.about.rows) (sym c.self.view_is) c.requires.free in
    let room : length (rows_of es) < MOST_CACHE_ROWS = omega (arith, free, h.book.history.few) in
    let may : IsNewFill P es c.args.key c.args.row.site c.args.row.first = record { key = fill.key; named = fill.named; right = fill.right; new = fill.new; room = room } in
    record {
      es = es;
      index = subst (λ p. IsIndexOf p es c.self.inside.index) (sym c.requires.ready) h.filters;
      may_come = subst (λ p. IsNewFill p es c.args.key c.args.row.site c.args.row.first) (sym c.requires.ready) may;
    }

pub invariant_of-self : goal.invariant_of-self
invariant_of-self g c =
    let i = c.self.inside in
    parts_kept g.N.Naming.about i.seat.events i.seat i.events.items i.index i.keys.keys i.ends.items i.unfinished c.self.invariant i.seat c.reserve.new.events.items c.reserve.new.index i.keys.keys
    refl c.reserve.ensures.events c.reserve.ensures.noted refl

pub invariant_of-self-2 : goal.invariant_of-self-2
invariant_of-self-2 g c =
    let about = g.N.Naming.about in
    let i = c.self.inside in
    let es = i.seat.events in
    let e : Event = Ev.Fill c.args.key c.args.row.site c.args.row.first in
    let linked : c.link.new.book ≡ at_rest (es ++ e ∷ []) = c.in-Some.ensures.book ∙ ap (grown e) c.self.invariant.knows in
    let fill = subst (λ xs. IsNextFill about.program.value xs c.args.key c.args.row.site c.args.row.first) (sym c.self.view_is) c.requires.fill in
    parts_added about es i.seat i.events.items i.index i.keys.keys i.ends.items i.unfinished c.self.invariant c.args.ready.now c.requires.ready e
    c.meet.new.book c.add.new.events.items c.reserve.new.index c.add.new.index i.keys.keys
    (c.meet.ensures.book ∙ linked)
    (c.add.ensures.events ∙ ap (λ xs. xs ++ e ∷ []) c.in_ok-reserve.ensures.events)
    (subst (λ (b : BookView). IsHistory about b.events) linked c.meet.ensures.history)
    (fill_valid about.program.value c.args.ready.now es c.args.key c.args.row.site c.args.row.first c.requires.ready c.valid.ensures c.self.invariant.book.legal.stand fill)
    tt (λ t. refl) refl (sym (append-nil i.keys.keys))
    c.in_ok-reserve.ensures.noted
    c.add.ensures.index
