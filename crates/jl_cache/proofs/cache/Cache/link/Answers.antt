use Rattle.std.proofs.Common.{◌≡◌, ◌∙◌, ap, sym, subst, arith, max}
use Rattle.jl_calculus.specs.Ranges.{rows_of}
use Rattle.jl_calculus.specs.Words.{link_of}
use Rattle.jl_world.specs.Tops.{top_of}
use Rattle.jl_world.specs.declared.view.BookView.{BookView}
use Rattle.jl_world.specs.declared.row_word.RowWord.TheVariants.{Site, First, Last, Next, Top}
use Rattle.jl_world.specs.Adds.{HasWordsOf}
use Rattle.jl_world.specs.Places.{row_place}
use Rattle.jl_world.specs.Views.{stored_at}
use Rattle.jl_cache.proofs.Linked.{has_words, with_words, head_link, row_free}
use Rattle.jl_cache.proofs.cache.Cache.link.Goals as goal

pub top_with-top-requires : goal.top_with-top-requires
top_with-top-requires g c =
    let old = c.args.book.now in
    record {
      link = head_link old.events c.args.key c.book_head-head.result c.book_head-head.ensures.head (omega (arith, c.linked-row.ensures.count, c.linked-row.type_inv))
          ∙ ap (λ (b : BookView). link_of c.args.key (rows_of b.events)) (sym c.book_head-head.ensures.same);
    }

pub store_row-requires-clause-row : goal.store_row-requires-clause-row
store_row-requires-clause-row g c = row_free _ _ _ c.linked-row.ensures.few c.rows.ensures c.if-row-rows.false

pub store_row-requires-2-clause-row : goal.store_row-requires-2-clause-row
store_row-requires-2-clause-row g c = row_free _ _ _ c.linked-row.ensures.few c.rows.ensures c.if-row-rows.false

pub store_row-requires-3-clause-row : goal.store_row-requires-3-clause-row
store_row-requires-3-clause-row g c = row_free _ _ _ c.linked-row.ensures.few c.rows.ensures c.if-row-rows.false

pub store_row-requires-4-clause-row : goal.store_row-requires-4-clause-row
store_row-requires-4-clause-row g c = row_free _ _ _ c.linked-row.ensures.few c.rows.ensures c.if-row-rows.false

pub store_row-requires-5-clause-row : goal.store_row-requires-5-clause-row
store_row-requires-5-clause-row g c = row_free _ _ _ c.linked-row.ensures.few c.rows.ensures c.if-row-rows.false

pub store_head-requires-clause-words : goal.store_head-requires-clause-words
store_head-requires-clause-words g c =
    let old = c.args.book.now in
    let r = c.linked-row.result in
    let next = head_link old.events c.args.key c.book_head-head.result c.book_head-head.ensures.head (omega (arith, c.linked-row.ensures.count, c.linked-row.type_inv)) in
    let same = c.top_with-top.ensures.same ∙ c.book_head-head.ensures.same in
    let top = c.top_with-top.ensures.top ∙ ap (λ (b : BookView). max c.args.first (top_of c.args.key (rows_of b.events))) c.book_head-head.ensures.same in
    let site : c.store_row.new.book ≡ stored_at (row_place r Site) c.args.site old = c.store_row.ensures ∙ (λ k. stored_at (row_place r Site) (c.from.ensures k) (same k)) in
    let first : c.store_row-2.new.book ≡ stored_at (row_place r First) c.args.first (stored_at (row_place r Site) c.args.site old) = c.store_row-2.ensures ∙ (λ k. stored_at (row_place r First) (c.from-2.ensures k) (site k)) in
    let last = c.store_row-3.ensures ∙ ap (stored_at (row_place r Last) c.from-last.result) first in
    let linked = c.store_row-4.ensures ∙ ap (stored_at (row_place r Next) _) last in
    let all : c.store_row-5.new.book ≡ with_words r c.args.site c.args.first c.from-last.result _ c.top_with-top.result old = c.store_row-5.ensures ∙ ap (stored_at (row_place r Top) c.top_with-top.result) linked in
    subst (λ (b : BookView). HasWordsOf g.N.Naming.about.program.value b c.args.key c.args.site c.args.first) (sym all)
    (has_words _ old c.args.key c.args.site c.args.first c.args.last r c.from-last.result _ c.top_with-top.result c.requires.last c.linked-row.ensures.count (c.from-last.ensures ∙ c.unwrap_or.ensures) next top)
