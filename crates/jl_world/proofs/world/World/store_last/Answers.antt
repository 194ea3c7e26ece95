use Rattle.std.proofs.Common.{◌≡◌, sym, ◌∙◌, arith, ap, subst, length}
use Rattle.std.proofs.lemmas.Option.{slice_get_within}
use Rattle.jl_calculus.specs.Ranges.{rows_of}
use Rattle.jl_calculus.specs.World.{world_of}
use Rattle.jl_world.specs.declared.row_word.RowWord.TheVariants.{Last}
use Rattle.jl_world.specs.declared.view.BookView.{BookView}
use Rattle.jl_world.specs.declared.view.View.TheVariants.{Book}
use Rattle.jl_world.specs.Places.{AreFew}
use Rattle.jl_world.specs.Rule.{IsOpenRow}
use Rattle.jl_world.specs.Views.{book_of, cut_at}
use Rattle.jl_world.proofs.Stores.{cuts_as}
use Rattle.jl_world.proofs.Wording.{row_small}
use Rattle.jl_world.proofs.world.World.store_last.Goals as goal

pub store-requires : goal.store-requires
store-requires g c =
    let i = c.book.invariant in
    let w = c.args.self.now in
    let v = c.book.view_is in
    let r = c.requires.row in
    let rows = ap (λ b. length (rows_of b.events)) v in
    let low = slice_get_within (rows_of c.args.book.now.events) c.args.row r.row r.stands in (
      i.0 ∙ sym w.named.0,
      omega (arith, w.sized, c.index_in_row.ensures, row_small g.N.Naming.about c.args.row Last (omega (arith, low, rows, i.5.1))),
      cuts_as _ _ _ _ c.args.row _ _ _ w.named.1 i.1 c.index_in_row.ensures (c.from.ensures ∙ c.requires.last ∙ ap (λ b. world_of b.events) (sym v))
          (subst (λ (b : BookView). IsOpenRow g.N.Naming.about.program.value b.events c.args.row) (sym v) r),
    )

pub invariant_of-book : goal.invariant_of-book
invariant_of-book g c =
    let i = c.book.invariant in
    let after = c.store.ensures.2 c.args.row c.index_in_row.ensures in
    let now : book_of c.store.new.seat.me.0 ≡ cut_at c.args.row (book_of c.book.inside.seat.me.0) = ap (λ m. book_of m.0) after in (
      c.store.ensures.0 ∙ i.0,
      after ∙ (λ k. (Book (sym now k), ap (λ m. m.1) i.1 k)),
      i.2 ∙ ap (λ x. world_of x.events) (sym now),
      i.3 ∙ ap (λ x. length x.events) (sym now),
      i.4 ∙ ap (λ x. length (rows_of x.events)) (sym now),
      subst (λ (x : BookView). AreFew g.N.Naming.about x.events) (sym now) i.5,
    )

pub returns : goal.returns
returns g c = ap (λ m. book_of m.0) (c.store.ensures.2 c.args.row c.index_in_row.ensures) ∙ ap (cut_at c.args.row) c.book.view_is
