use Rattle.std.proofs.Common.{◌∙◌, ap, sym, subst, arith, ◌++◌, ◌∷◌, [], length, set, Some}
use Rattle.jl_book.specs.Passes.{IsRunOver}
use Rattle.jl_book.proofs.Counting.{running_counts}
use Rattle.jl_book.proofs.PartLemmas.{parts_ended}
use Rattle.jl_book.proofs.Stays.{view_is, end_is, record_fits}
use Rattle.jl_book.proofs.book.Book.done.Goals as goal

pub overflow_sub-self : goal.overflow_sub-self
overflow_sub-self g c =
    let es = c.self.inside.seat.events in
    let run = (view_is g.N.Naming.about.program.value es c.pass.inside.task c.pass.inside.seat c.pass.invariant.task c.end-event.ensures.fits).running in
    omega (arith, c.self.invariant.counted, running_counts es c.pass.inside.task run)

pub invariant_of-self-2 : goal.invariant_of-self-2
invariant_of-self-2 g c =
    let about = g.N.Naming.about in
    let es = c.self.inside.seat.events in
    let t = c.pass.inside.task in
    let v = c.pass.inside.seat in
    let fits = c.end-event.ensures.fits in
    let run = (view_is about.program.value es t v c.pass.invariant.task fits).running in
    let over = subst (λ x. IsRunOver about x c.args.ended) (sym c.pass.view_is) c.requires.run in
    parts_ended about es c.self.inside.seat c.self.inside.events.items c.self.inside.index c.self.inside.keys.keys c.self.inside.ends.items c.self.inside.unfinished c.self.invariant t c.args.ended
    c.end-event.new.book c.push_reserved.new.self.items _ _
    c.end-event.ensures.book
    (c.push_reserved.ensures.items ∙ (λ i. c.in-Ok.ensures.items i ++ c.end-event.ensures.event i ∷ []))
    (ap (λ k. set c.self.inside.ends.items t (Some k)) (c.len.ensures ∙ c.reserve.new.self.ok.0 ∙ ap length c.in-Ok.ensures.items))
    (omega (arith, c.self.invariant.counted, running_counts es t run))
    run
    (record_fits about es t v c.args.ended c.pass.invariant fits c.end-event.ensures.history over c.self.invariant.book.valid)
    (end_is about es t v c.args.ended c.pass.invariant fits c.end-event.ensures.history over)
