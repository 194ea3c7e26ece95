use Rattle.std.proofs.Common.{length, sym, ◌∙◌, ap}
use Rattle.jl_calculus.specs.Ranges.{rows_of}
use Rattle.jl_calculus.specs.World.{world_of}
use Rattle.jl_world.proofs.Values.{value_note, note_may}
use Rattle.jl_world.proofs.world.World.note.Goals as goal

pub grow-requires-clause-event : goal.grow-requires-clause-event
grow-requires-clause-event g c = note_may _ _ _ c.requires.kind c.requires.held c.requires.legal c.requires.place c.requires.uncut

pub grow-requires-clause-word : goal.grow-requires-clause-word
grow-requires-clause-word g c =
    let e = value_note c.args.book.now.events c.args.event.now c.book.inside.count (c.book.invariant.3 ∙ ap (λ b. length b.events) c.book.view_is) c.requires.kind in
    (sym e.place, c.from.ensures ∙ e.value)

pub grow-requires-clause-world : goal.grow-requires-clause-world
grow-requires-clause-world g c =
    let e = value_note c.args.book.now.events c.args.event.now c.book.inside.count (c.book.invariant.3 ∙ ap (λ b. length b.events) c.book.view_is) c.requires.kind in
    c.book.invariant.2 ∙ ap (λ b. world_of b.events) c.book.view_is ∙ sym e.world

pub grow-requires-clause-linked : goal.grow-requires-clause-linked
grow-requires-clause-linked g c =
    let e = value_note c.args.book.now.events c.args.event.now c.book.inside.count (c.book.invariant.3 ∙ ap (λ b. length b.events) c.book.view_is) c.requires.kind in
    c.book.invariant.4 ∙ ap (λ b. length (rows_of b.events)) c.book.view_is ∙ sym e.rows
