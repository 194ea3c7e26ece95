use Rattle.std.proofs.Common.{◌∙◌, ap, sym, subst, arith, refl, ◌++◌, ◌∷◌, [], List}
use Rattle.jl_calculus.specs.declared.history.Event.{Event}
use Rattle.jl_calculus.specs.Legal.{MayCome}
use Rattle.jl_calculus.specs.Words.{AreAllCut}
use Rattle.jl_calculus.specs.World.{change_event}
use Rattle.jl_methods.specs.Indexed.{IsIndexOf}
use Rattle.jl_world.specs.declared.view.BookView.{BookView}
use Rattle.jl_world.proofs.Bounds.{few_worlds}
use Rattle.jl_book.specs.Books.{HasParts, at_rest}
use Rattle.jl_book.proofs.ChangeEvents.{may_be_made}
use Rattle.jl_book.proofs.PartLemmas.{parts_changed, parts_kept}
use Rattle.jl_book.proofs.Starts.{made_pass}
use Rattle.jl_book.proofs.book.Book.make_world.Goals as goal

pub invariant_of-self : goal.invariant_of-self
invariant_of-self g c =
    let i = c.self.inside in
    parts_kept g.N.Naming.about i.seat.events i.seat i.events.items i.index i.keys.keys i.ends.items i.unfinished c.self.invariant i.seat c.reserve_change.new.events.items c.reserve_change.new.index i.keys.keys
    refl c.reserve_change.ensures.events c.reserve_change.ensures.noted refl

pub cut_touched-requires-clause-index : goal.cut_touched-requires-clause-index
cut_touched-requires-clause-index g c =
    let i = c.self.inside in
    let kept =
    parts_kept g.N.Naming.about i.seat.events i.seat i.events.items i.index i.keys.keys i.ends.items i.unfinished c.self.invariant i.seat c.reserve_change.new.events.items c.reserve_change.new.index i.keys.keys
    refl c.reserve_change.ensures.events c.reserve_change.ensures.noted refl
    in
    kept.filters

pub publish-requires-clause-cut : goal.publish-requires-clause-cut
publish-requires-clause-cut g c =
    subst (λ xs. AreAllCut g.N.Naming.about.program.value xs c.args.change c.cut_touched.new.book.cut) (sym (ap (λ (b : BookView). b.events) c.cut_touched.ensures.same)) c.cut_touched.ensures.cut

pub overflow_cast-result : goal.overflow_cast-result
overflow_cast-result g c =
    let about = g.N.Naming.about in
    let P = about.program.value in
    let Q = c.args.ready.now in
    let i = c.self.inside in
    let h = c.self.invariant in
    let es = i.seat.events in
    let t = c.pass.inside.task in
    let change = c.args.change in
    let e = change_event t change in
    let may = may_be_made P es c.args.self.now c.pass.inside.seat c.args.pass.now t change c.self.view_is c.pass.view_is c.pass.invariant.task c.requires.running c.requires.change c.requires.room in
    let now : HasParts about c.publish.new.book.events c.publish.new.book c.add.new.events.items c.add.new.index i.keys.keys i.ends.items i.unfinished =
    parts_changed about es i.seat i.events.items i.index i.keys.keys i.ends.items i.unfinished h Q c.requires.ready t change may
    c.publish.new.book c.add.new.events.items c.reserve_change.new.index c.add.new.index
    (c.publish.ensures.book ∙ ap (λ (b : BookView). at_rest (b.events ++ e ∷ [])) c.cut_touched.ensures.same)
    (c.add.ensures.events ∙ (λ k. c.in_ok-event.ensures.events k ++ c.in_ok-event.ensures.event k ∷ []))
    c.in_ok-event.ensures.noted
    (subst (λ (x : Event). (xs : List Event) → IsIndexOf Q xs c.reserve_change.new.index → MayCome Q xs x → IsIndexOf Q (xs ++ x ∷ []) c.add.new.index) c.in_ok-event.ensures.event c.add.ensures.index)
    in
    omega (arith, c.worlds.ensures P c.publish.new.book.events now.filters, few_worlds P c.publish.new.book.events now.book.legal.stand)

pub invariant_of-self-2 : goal.invariant_of-self-2
invariant_of-self-2 g c =
    let about = g.N.Naming.about in
    let P = about.program.value in
    let Q = c.args.ready.now in
    let i = c.self.inside in
    let h = c.self.invariant in
    let es = i.seat.events in
    let t = c.pass.inside.task in
    let change = c.args.change in
    let e = change_event t change in
    let may = may_be_made P es c.args.self.now c.pass.inside.seat c.args.pass.now t change c.self.view_is c.pass.view_is c.pass.invariant.task c.requires.running c.requires.change c.requires.room in
    parts_changed about es i.seat i.events.items i.index i.keys.keys i.ends.items i.unfinished h Q c.requires.ready t change may
    c.publish.new.book c.add.new.events.items c.reserve_change.new.index c.add.new.index
    (c.publish.ensures.book ∙ ap (λ (b : BookView). at_rest (b.events ++ e ∷ [])) c.cut_touched.ensures.same)
    (c.add.ensures.events ∙ (λ k. c.in_ok-event.ensures.events k ++ c.in_ok-event.ensures.event k ∷ []))
    c.in_ok-event.ensures.noted
    (subst (λ (x : Event). (xs : List Event) → IsIndexOf Q xs c.reserve_change.new.index → MayCome Q xs x → IsIndexOf Q (xs ++ x ∷ []) c.add.new.index) c.in_ok-event.ensures.event c.add.ensures.index)

pub returns-clause-world : goal.returns-clause-world
returns-clause-world g c =
    let about = g.N.Naming.about in
    let P = about.program.value in
    let Q = c.args.ready.now in
    let i = c.self.inside in
    let h = c.self.invariant in
    let es = i.seat.events in
    let t = c.pass.inside.task in
    let change = c.args.change in
    let e = change_event t change in
    let may = may_be_made P es c.args.self.now c.pass.inside.seat c.args.pass.now t change c.self.view_is c.pass.view_is c.pass.invariant.task c.requires.running c.requires.change c.requires.room in
    let now : HasParts about c.publish.new.book.events c.publish.new.book c.add.new.events.items c.add.new.index i.keys.keys i.ends.items i.unfinished =
    parts_changed about es i.seat i.events.items i.index i.keys.keys i.ends.items i.unfinished h Q c.requires.ready t change may
    c.publish.new.book c.add.new.events.items c.reserve_change.new.index c.add.new.index
    (c.publish.ensures.book ∙ ap (λ (b : BookView). at_rest (b.events ++ e ∷ [])) c.cut_touched.ensures.same)
    (c.add.ensures.events ∙ (λ k. c.in_ok-event.ensures.events k ++ c.in_ok-event.ensures.event k ∷ []))
    c.in_ok-event.ensures.noted
    (subst (λ (x : Event). (xs : List Event) → IsIndexOf Q xs c.reserve_change.new.index → MayCome Q xs x → IsIndexOf Q (xs ++ x ∷ []) c.add.new.index) c.in_ok-event.ensures.event c.add.ensures.index)
    in
    c.worlds.ensures P c.publish.new.book.events now.filters

pub invariant_of-pass : goal.invariant_of-pass
invariant_of-pass g c =
    made_pass g.N.Naming.about c.cut_touched.new.book.events (change_event c.pass.inside.task c.args.change) c.pass.inside.task c.pass.inside.seat c.publish.new.seat
    c.pass.invariant c.publish.ensures.fits.prefix c.publish.ensures.seat
