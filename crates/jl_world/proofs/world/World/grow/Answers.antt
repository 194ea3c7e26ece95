use Rattle.std.proofs.Common.{◌≡◌, ℕ, [], ◌∷◌, ◌++◌, sym, ◌∙◌, arith, ap, subst, length, length-append}
use Rattle.jl_program.specs.declared.tree.Program.{Program}
use Rattle.jl_calculus.specs.declared.history.Event.{Event}
use Rattle.jl_world.specs.declared.view.BookView.{BookView}
use Rattle.jl_world.specs.declared.view.View.TheVariants.{Book}
use Rattle.jl_calculus.specs.Ranges.{rows_of}
use Rattle.jl_calculus.specs.World.{world_of}
use Rattle.jl_world.specs.declared.about.About.{About}
use Rattle.jl_world.specs.Adds.{MayAdd}
use Rattle.jl_world.specs.Places.{AreFew, place_of, word_of}
use Rattle.jl_world.specs.Views.{book_of, grown}
use Rattle.jl_world.proofs.Stores.{grows_as, place_small}
use Rattle.jl_world.proofs.world.World.grow.Goals as goal

pub store-requires : goal.store-requires
store-requires g c =
    let i = c.book.invariant in
    let e = g.E.Told.event in
    let v = c.book.view_is in
    let t = c.requires.told in
    let w = c.args.self.now in
    let b = book_of c.book.inside.seat.me.0 in
    let may : MayAdd g.N.Naming.about b e = subst (λ (z : BookView × Event). MayAdd g.N.Naming.about z.0 z.1) (λ k. (sym v k, sym t k)) c.requires.event in
    let word : c.args.word ≡ place_of e = rw t c.requires.word.0 in
    let value : c.args.value ≡ word_of e (b.events ++ e ∷ []) = rw (v, t) c.requires.word.1 in (
      i.0 ∙ sym w.named.0,
      omega (arith, w.sized, place_small _ _ _ w.places i.5 may, word),
      grows_as _ _ _ _ _ e _ _ w.named.1 i.1 may word value,
    )

pub invariant_of-book : goal.invariant_of-book
invariant_of-book g c =
    let i = c.book.invariant in
    let s = c.store.ensures in
    let b = book_of c.book.inside.seat.me.0 in
    let e = g.E.Told.event in
    let v = c.book.view_is in
    let t = c.requires.told in
    let after = s.2.0 in
    let grown_is : book_of c.store.new.seat.me.0 ≡ grown e b = ap (λ m. book_of m.0) after in (
      s.0 ∙ i.0,
      after ∙ (λ k. (Book (sym grown_is k), ap (λ m. m.1) i.1 k)),
      c.requires.world ∙ ap world_of (λ k. (sym v k).events ++ sym t k ∷ []) ∙ ap (λ x. world_of x.events) (sym grown_is),
      omega (arith, i.3, ap (λ x. length x.events) grown_is, length-append b.events (e ∷ [])),
      c.requires.linked ∙ ap (λ l. length (rows_of l)) (λ k. (sym v k).events ++ sym t k ∷ []) ∙ ap (λ x. length (rows_of x.events)) (sym grown_is),
      subst (λ (x : BookView). AreFew g.N.Naming.about x.events) (sym grown_is) s.2.1,
    )
