use Rattle.std.proofs.Common.{◌≡◌, ◌∙◌, ap, sym, subst, arith, ℕ, ◌+◌, List, [], ◌∷◌, length, None}
use Rattle.jl_program.specs.declared.tree.Program.{Program}
use Rattle.jl_calculus.specs.declared.history.Change.TheVariants as Ch
use Rattle.jl_calculus.specs.declared.history.Event.{Event}
use Rattle.jl_calculus.specs.declared.history.Event.TheVariants.{Def}
use Rattle.jl_calculus.specs.Ranges.{rows_of}
use Rattle.jl_calculus.specs.Words.{AreAllCut}
use Rattle.jl_calculus.specs.World.{world_of}
use Rattle.jl_cache.specs.Finds.{HasRangeEnd}
use Rattle.jl_world.specs.declared.view.BookView.{BookView}
use Rattle.jl_world.specs.Rule.{IsOpenRow}
use Rattle.jl_world.specs.Views.{HasTask, grown}
use Rattle.jl_world.specs.Adds.{IsNextFill}
use Rattle.store_tests.specs.Rounds.{f_key, history}
use Rattle.store_tests.proofs.RoundLemmas.{IsLinked, after_link, at_round, finished, linked, may_cut, may_link, may_publish, named, no_end, rows_are, world_is}
use Rattle.store_tests.proofs.rounds.define_again.Given as given
use Rattle.store_tests.proofs.rounds.define_again.Goals as goal

pub link-requires-clause-fill : goal.link-requires-clause-fill
link-requires-clause-fill g c =
    subst (λ (z : Program × List Event). IsNextFill z.0 z.1 0 14 (15 + c.args.number)) (λ i. (sym c.requires.program i, sym c.requires.round.events i))
    (may_link (history g.N.Naming.about.fuel c.args.number) c.args.number (at_round g.N.Naming.about.fuel c.args.number))

pub link-requires-clause-last : goal.link-requires-clause-last
link-requires-clause-last g c =
    let fuel = g.N.Naming.about.fuel in
    let n = c.args.number in
    subst (λ (z : Program × List Event). HasRangeEnd z.0 z.1 0 (15 + n) None) (λ i. (sym c.requires.program i, sym c.requires.round.events i))
    (f_key, named (history fuel n) n n (at_round fuel n), no_end (history fuel n) n n (at_round fuel n))

-- the row that was linked
row_is : (g : given.Over) (c : goal.After-cut-arg-1 g) → IsLinked g.N.Naming.about.fuel c.args.number c.link.new.book × (c.in-Some.row ≡ c.args.number)
row_is g c =
    let fuel = g.N.Naming.about.fuel in
    let n = c.args.number in (
      linked fuel n c.args.book.now c.link.new.book c.requires.round c.in-Some.ensures.book,
      c.in-Some.ensures.row.0 ∙ ap (λ es. length (rows_of es)) c.requires.round.events ∙ rows_are (history fuel n) n n (at_round fuel n),
    )

pub cut-requires-clause-row : goal.cut-requires-clause-row
cut-requires-clause-row g c =
    let l = row_is g c in
    subst (λ (z : Program × ℕ). IsOpenRow z.0 c.link.new.book.events z.1) (λ i. (sym c.requires.program i, sym l.1 i))
    (may_cut c.link.new.book.events c.args.number (after_link _ _ _ l.0))

pub cut-requires-clause-last : goal.cut-requires-clause-last
cut-requires-clause-last g c = let l = row_is g c in sym (world_is c.link.new.book.events c.args.number _ (after_link _ _ _ l.0))

-- the row that was cut
cut_is : (g : given.Over) (c : goal.After-publish-arg-1 g) → IsLinked g.N.Naming.about.fuel c.args.number c.link.new.book × (c.in-Some.row ≡ c.args.number)
cut_is g c =
    let fuel = g.N.Naming.about.fuel in
    let n = c.args.number in (
      linked fuel n c.args.book.now c.link.new.book c.requires.round c.in-Some.ensures.book,
      c.in-Some.ensures.row.0 ∙ ap (λ es. length (rows_of es)) c.requires.round.events ∙ rows_are (history fuel n) n n (at_round fuel n),
    )

pub publish-requires-clause-held : goal.publish-requires-clause-held
publish-requires-clause-held g c = subst (λ (b : BookView). HasTask 0 b.held) (sym c.cut.ensures) (cut_is g c).0.held

pub publish-requires-clause-cut : goal.publish-requires-clause-cut
publish-requires-clause-cut g c =
    let l = cut_is g c in
    let cut : c.in-Some.row ∷ c.link.new.book.cut ≡ c.args.number ∷ [] = λ i. l.1 i ∷ l.0.uncut i in
    subst (λ (b : BookView). AreAllCut g.N.Naming.about.program.value b.events (Ch.Def 14) b.cut) (sym c.cut.ensures)
    (subst (λ (z : Program × List ℕ). AreAllCut z.0 c.link.new.book.events (Ch.Def 14) z.1) (λ i. (sym c.requires.program i, sym cut i)) (may_publish c.link.new.book.events c.args.number (after_link _ _ _ l.0)))

pub publish-requires-clause-world : goal.publish-requires-clause-world
publish-requires-clause-world g c =
    let l = cut_is g c in
    let world : world_of c.cut.new.book.events ≡ 15 + c.args.number = ap (λ b. world_of b.events) c.cut.ensures ∙ world_is c.link.new.book.events c.args.number _ (after_link _ _ _ l.0) in
    omega (arith, world, c.requires.few)

pub returns : goal.returns
returns g c linked_all =
    finished g.N.Naming.about.fuel c.args.number c.in-Some.row c.link.new.book c.publish.new.book (linked g.N.Naming.about.fuel c.args.number c.args.book.now c.link.new.book c.requires.round c.in-Some.ensures.book)
    (c.publish.ensures ∙ ap (grown (Def 0 14)) c.cut.ensures)
