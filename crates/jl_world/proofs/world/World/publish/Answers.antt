use Rattle.std.proofs.Common.{ℕ, ◌≡◌, ◌+◌, ◌*◌, ◌++◌, ◌∷◌, [], length, sym, ◌∙◌, refl, ap, subst, arith}
use Rattle.jl_calculus.specs.declared.history.Event.{Event}
use Rattle.jl_calculus.specs.Ranges.{rows_of}
use Rattle.jl_calculus.specs.Words.{upper}
use Rattle.jl_calculus.specs.World.{world_of}
use Rattle.jl_world.specs.Adds.{MayAdd}
use Rattle.jl_world.specs.Places.{place_of, word_of}
use Rattle.jl_world.proofs.Values.{place_change, value_change, world_change, rows_change, change_may}
use Rattle.jl_world.proofs.world.World.publish.Goals as goal

pub grow-requires-clause-event : goal.grow-requires-clause-event
grow-requires-clause-event g c =
    subst (λ (e : Event). MayAdd g.N.Naming.about c.args.book.now e) (sym c.event-event.ensures)
    (change_may g.N.Naming.about c.args.book.now c.args.task c.args.change c.requires.held c.requires.change c.requires.cut c.requires.world)

pub grow-requires-clause-word : goal.grow-requires-clause-word
grow-requires-clause-word g c =
    let i = c.book.invariant in
    let v = c.book.view_is in
    let es = c.args.book.now.events in
    let e = value_change es c.args.task c.args.change c.book.inside.count c.book.inside.world (i.3 ∙ ap (λ b. length b.events) v) (i.2 ∙ ap (λ b. world_of b.events) v) in
    let is = c.event-event.ensures in
    let word : word_of c.event-event.result (es ++ c.event-event.result ∷ []) ≡ (c.book.inside.count + 1) * upper + (c.book.inside.world + 1) =
    ap (λ (x : Event). word_of x (es ++ x ∷ [])) is ∙ sym e in
    (sym (ap place_of is ∙ place_change c.args.task c.args.change), omega (arith, word, c.from.ensures, c.from-2.ensures))

pub grow-requires-clause-world : goal.grow-requires-clause-world
grow-requires-clause-world g c =
    let i = c.book.invariant in
    let es = c.args.book.now.events in
    ap (λ n. n + 1) (i.2 ∙ ap (λ b. world_of b.events) c.book.view_is) ∙ sym (world_change es c.args.task c.args.change)
    ∙ sym (ap (λ (x : Event). world_of (es ++ x ∷ [])) c.event-event.ensures)

pub grow-requires-clause-linked : goal.grow-requires-clause-linked
grow-requires-clause-linked g c =
    let es = c.args.book.now.events in
    c.book.invariant.4 ∙ ap (λ b. length (rows_of b.events)) c.book.view_is ∙ sym (rows_change es c.args.task c.args.change)
    ∙ sym (ap (λ (x : Event). length (rows_of (es ++ x ∷ []))) c.event-event.ensures)
