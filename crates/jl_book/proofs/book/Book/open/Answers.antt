use Rattle.std.proofs.Common.{◌∙◌, ap, sym, subst, [], ◌∷◌, ◌++◌, None}
use Rattle.jl_program.specs.Valid.{IsValid}
use Rattle.jl_calculus.specs.declared.history.Event.TheVariants as Ev
use Rattle.jl_world.specs.declared.view.BookView.{BookView}
use Rattle.jl_world.specs.Rule.{IsHistory}
use Rattle.jl_book.specs.Passes.{IsPass}
use Rattle.jl_book.proofs.PartLemmas.{first_parts}
use Rattle.jl_book.proofs.Starts.{met_pass, root_pass}
use Rattle.jl_book.proofs.book.Book.open.Goals as goal

pub invariant_of-book : goal.invariant_of-book
invariant_of-book g c =
    let about = g.N.Naming.about in
    first_parts about c.meet.new.book c.push.new.self.items c.in_ok-index.index c.new-keys.result.keys c.push-2.new.self.items c.args.ready.now c.requires.ready
    (c.meet.ensures.book ∙ c.open-world.ensures.book)
    (c.in_ok-push.ensures.items ∙ (λ i. c.new-events.ensures.items i ++ Ev.Begin ((c.fuel.ensures ∙ ap (λ a. a.fuel) c.requires.name.1) i) ∷ []))
    (subst (λ (b : BookView). IsHistory about b.events) c.open-world.ensures.book c.meet.ensures.history)
    c.in_ok-index.ensures
    c.new-keys.ensures.empty
    (c.in_ok-push-2.ensures.items ∙ ap (λ xs. xs ++ None ∷ []) c.new-ends.ensures.items)

pub invariant_of-pass : goal.invariant_of-pass
invariant_of-pass g c =
    let about = g.N.Naming.about in
    let valid = subst IsValid c.requires.ready c.valid.ensures in
    met_pass about _ 0 _ c.meet.new.seat (subst (IsPass about 0) (sym c.open-world.ensures.root) (root_pass about valid)) c.meet.ensures.fits.prefix c.meet.ensures.seat
