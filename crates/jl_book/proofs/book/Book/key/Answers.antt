use Rattle.std.proofs.Common.{◌≡◌, ◌∙◌, ap, sym, subst, refl, ◌++◌, ◌∷◌, [], List, inl, length, slice_get, Some}
use Rattle.std.specs.List.{Contains}
use Rattle.jl_calculus.specs.declared.history.Event.{Event}
use Rattle.jl_calculus.specs.declared.history.Event.TheVariants as Ev
use Rattle.jl_calculus.specs.Legal.{MayCome}
use Rattle.jl_calculus.specs.Ranges.{keys_of}
use Rattle.jl_methods.specs.Indexed.{IsIndexOf}
use Rattle.jl_world.specs.declared.view.BookView.{BookView}
use Rattle.jl_world.specs.Rule.{IsHistory}
use Rattle.jl_world.specs.Views.{grown}
use Rattle.jl_world.proofs.Lists.{contains_at}
use Rattle.jl_book.specs.Books.{at_rest}
use Rattle.jl_book.proofs.Finding.{named_last}
use Rattle.jl_book.proofs.PartLemmas.{parts_added, parts_kept}
use Rattle.jl_book.proofs.Starts.{met_pass}
use Rattle.jl_book.proofs.book.Book.key.Goals as goal

pub returns-in-Some-clause-added : goal.returns-in-Some-clause-added
returns-in-Some-clause-added g c =
    let es = c.self.inside.seat.events in
    let k = c.args.key.now in
    let at : slice_get (keys_of es) c.in-Some.number ≡ Some k = ap (λ ks. slice_get ks c.in-Some.number) (sym c.self.invariant.named) ∙ c.in-Some.ensures in
    inl (subst (λ xs. Contains (keys_of xs) k) c.self.view_is (contains_at (keys_of es) c.in-Some.number k at), ap (λ (b : BookView). b.events) c.meet.ensures.book ∙ c.self.view_is)

pub returns-in-Some-clause-full : goal.returns-in-Some-clause-full
returns-in-Some-clause-full g c =
    let es = c.self.inside.seat.events in
    let k = c.args.key.now in
    let at : slice_get (keys_of es) c.in-Some.number ≡ Some k = ap (λ ks. slice_get ks c.in-Some.number) (sym c.self.invariant.named) ∙ c.in-Some.ensures in
    (λ e. cc, λ full. absurd (full.new (subst (λ xs. Contains (keys_of xs) k) c.self.view_is (contains_at (keys_of es) c.in-Some.number k at))))

pub invariant_of-self-in_default-reserve_key : goal.invariant_of-self-in_default-reserve_key
invariant_of-self-in_default-reserve_key g c =
    let i = c.self.inside in
    parts_kept g.N.Naming.about i.seat.events i.seat i.events.items i.index i.keys.keys i.ends.items i.unfinished c.self.invariant c.meet.new.book c.reserve_key.new.events.items c.reserve_key.new.index
    c.reserve_key.new.keys.keys c.meet.ensures.book c.reserve_key.ensures.events c.reserve_key.ensures.noted c.reserve_key.ensures.keys

pub invariant_of-pass-then-number-most : goal.invariant_of-pass-then-number-most
invariant_of-pass-then-number-most g c =
    met_pass g.N.Naming.about c.self.inside.seat.events c.pass.inside.task c.pass.inside.seat c.meet.new.seat c.pass.invariant c.meet.ensures.fits.prefix c.meet.ensures.seat

pub invariant_of-pass-in_default-reserve_key : goal.invariant_of-pass-in_default-reserve_key
invariant_of-pass-in_default-reserve_key g c =
    met_pass g.N.Naming.about c.self.inside.seat.events c.pass.inside.task c.pass.inside.seat c.meet.new.seat c.pass.invariant c.meet.ensures.fits.prefix c.meet.ensures.seat

pub invariant_of-self-2 : goal.invariant_of-self-2
invariant_of-self-2 g c =
    let about = g.N.Naming.about in
    let Q = c.args.ready.now in
    let i = c.self.inside in
    let h = c.self.invariant in
    let es = i.seat.events in
    let e : Event = Ev.Key c.args.key.now in
    let noted : c.note.new.book ≡ at_rest (es ++ e ∷ []) = c.note.ensures ∙ (λ k. grown (c.in-Ok.ensures.event k) (c.meet.ensures.book k)) ∙ ap (grown e) h.knows in
    parts_added about es i.seat i.events.items i.index i.keys.keys i.ends.items i.unfinished h Q c.requires.ready e
    c.meet-2.new.book c.add.new.events.items c.reserve_key.new.index c.add.new.index c.add_key.new.keys.keys
    (c.meet-2.ensures.book ∙ noted)
    (c.add.ensures.events ∙ (λ k. c.in-Ok.ensures.events k ++ c.in-Ok.ensures.event k ∷ []))
    (subst (λ (b : BookView). IsHistory about b.events) noted c.meet-2.ensures.history)
    c.requires.key tt (λ t. refl) refl
    (c.add_key.ensures ∙ (λ k. c.in-Ok.ensures.keys k ++ c.in-Ok.ensures.key k ∷ []))
    c.in-Ok.ensures.noted
    (subst (λ (x : Event). (xs : List Event) → IsIndexOf Q xs c.reserve_key.new.index → MayCome Q xs x → IsIndexOf Q (xs ++ x ∷ []) c.add.new.index) c.in-Ok.ensures.event c.add.ensures.index)

pub invariant_of-pass-2 : goal.invariant_of-pass-2
invariant_of-pass-2 g c =
    let about = g.N.Naming.about in
    let t = c.pass.inside.task in
    let first = met_pass about c.self.inside.seat.events t c.pass.inside.seat c.meet.new.seat c.pass.invariant c.meet.ensures.fits.prefix c.meet.ensures.seat in
    met_pass about c.note.new.book.events t c.meet.new.seat c.meet-2.new.seat first c.meet-2.ensures.fits.prefix c.meet-2.ensures.seat

pub returns-clause-named : goal.returns-clause-named
returns-clause-named g c =
    let es = c.self.inside.seat.events in
    let e : Event = Ev.Key c.args.key.now in
    let noted : c.note.new.book ≡ at_rest (es ++ e ∷ []) = c.note.ensures ∙ (λ k. grown (c.in-Ok.ensures.event k) (c.meet.ensures.book k)) ∙ ap (grown e) c.self.invariant.knows in
    named_last es c.meet-2.new.book.events c.args.key.now c.len-number.result (ap (λ (b : BookView). b.events) (c.meet-2.ensures.book ∙ noted)) (c.len-number.ensures.len ∙ ap length c.self.invariant.named)
