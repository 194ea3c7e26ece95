use Rattle.std.proofs.Common.{length, sym, ◌∙◌, ap, arith, refl}
use Rattle.jl_calculus.specs.Ranges.{rows_of}
use Rattle.jl_calculus.specs.World.{world_of}
use Rattle.jl_calculus.specs.declared.history.Event.TheVariants.{Fill}
use Rattle.jl_world.proofs.Values.{value_fill, rows_fill}
use Rattle.jl_world.proofs.Wording.{same_world}
use Rattle.jl_world.proofs.world.World.store_head.Goals as goal

pub grow-requires-clause-event : goal.grow-requires-clause-event
grow-requires-clause-event g c =
    let f = c.requires.fill in
    record {
      holds = tt;
      place = c.requires.free;
      ready = (c.requires.uncut, c.requires.words);
      narrow = omega (arith, c.ranges.site);
      may = record { key = f.key; named = f.named; right = f.right; new = f.new; room = omega (arith, c.requires.free, c.args.self.now.places) };
    }

pub grow-requires-clause-word : goal.grow-requires-clause-word
grow-requires-clause-word g c =
    let i = c.book.invariant in
    let v = c.book.view_is in
    let e = value_fill c.args.book.now.events c.args.key c.args.site c.args.first c.book.inside.count c.book.inside.linked (i.3 ∙ ap (λ b. length b.events) v) (i.4 ∙ ap (λ b. length (rows_of b.events)) v) in
    (refl, omega (arith, e, c.from.ensures, c.from-2.ensures))

pub grow-requires-clause-world : goal.grow-requires-clause-world
grow-requires-clause-world g c = c.book.invariant.2 ∙ ap (λ b. world_of b.events) c.book.view_is ∙ sym (same_world c.args.book.now.events (Fill c.args.key c.args.site c.args.first) refl)

pub grow-requires-clause-linked : goal.grow-requires-clause-linked
grow-requires-clause-linked g c = omega (arith, c.book.invariant.4 ∙ ap (λ b. length (rows_of b.events)) c.book.view_is, rows_fill c.args.book.now.events c.args.key c.args.site c.args.first)
