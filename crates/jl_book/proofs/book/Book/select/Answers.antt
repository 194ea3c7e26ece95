use Rattle.std.proofs.Common.{sym, subst}
use Rattle.jl_calculus.specs.Kept.{IsKeptFor}
use Rattle.jl_calculus.specs.World.{Selects}
use Rattle.jl_rows.specs.Plans.{places_of}
use Rattle.jl_world.specs.declared.view.TaskView.{TaskView}
use Rattle.jl_world.specs.Views.{Begins}
use Rattle.jl_book.proofs.Selecting.{chosen_by, full_kept}
use Rattle.jl_book.proofs.book.Book.select.Goals as goal

pub returns-clause-choice : goal.returns-clause-choice
returns-clause-choice g c =
    let P = g.N.Naming.about.program.value in
    let k = c.args.key.now in
    subst (λ b. Selects P b.events k.function k.types c.args.world c.in_ok-choice.choice) (sym c.meet.ensures.book)
    (chosen_by P c.args.ready.now c.self.inside.seat.events c.self.inside.index k.function k.types c.args.world c.in_ok-choice.choice c.requires.ready c.self.invariant.filters c.in_ok-choice.ensures)

pub returns-clause-kept : goal.returns-clause-kept
returns-clause-kept g c =
    let P = g.N.Naming.about.program.value in
    let k = c.args.key.now in
    let room = places_of g.N.Naming.about in
    let b = subst (λ (v : TaskView). Begins v.seen c.self.inside.seat.events) c.pass.view_is c.meet.ensures.fits.prefix in
    subst (λ b. IsKeptFor P b.events room k.function k.types c.args.world) (sym c.meet.ensures.book)
    (full_kept P c.args.pass.now.seen c.self.inside.seat.events room k.function k.types c.args.world b c.requires.world.1 c.requires.full)
