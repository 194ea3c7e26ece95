use Rattle.std.proofs.Common.{◌≡◌, ◌∙◌, ap, sym, subst, arith, refl, ◌++◌, ◌∷◌, [], length, ◌+◌, ◌<◌, Some, None}
use Rattle.jl_calculus.specs.declared.history.Event.TheVariants as Ev
use Rattle.jl_calculus.specs.Legal.{IsSpawn}
use Rattle.jl_calculus.specs.Past.{tasks_of}
use Rattle.jl_world.specs.declared.view.BookView.{BookView}
use Rattle.jl_world.specs.Views.{begun}
use Rattle.jl_book.specs.Books.{at_rest}
use Rattle.jl_book.specs.Passes.{IsPass}
use Rattle.jl_book.proofs.Counting.{few_tasks, few_open}
use Rattle.jl_book.proofs.PartLemmas.{parts_spawned}
use Rattle.jl_book.proofs.Pushing.{history_push}
use Rattle.jl_book.proofs.Starts.{child_pass, noted_pass}
use Rattle.jl_book.proofs.Stays.{view_is}
use Rattle.jl_book.proofs.book.Book.spawn.Goals as goal

pub returns-then-len-ge-MOST_TASKS-clause-full : goal.returns-then-len-ge-MOST_TASKS-clause-full
returns-then-len-ge-MOST_TASKS-clause-full g c =
    let i = c.self.inside in
    let h = c.self.invariant in
    let many = c.len.ensures ∙ i.ends.ok.0 ∙ h.ended.all in
    let most = few_tasks g.N.Naming.about.program.value i.seat.events h.book.legal.stand in
    (λ q. omega (arith, many, most, c.if-len-ge-MOST_TASKS.true, ap tasks_of c.self.view_is), λ q. refl)

pub overflow_add-self : goal.overflow_add-self
overflow_add-self g c =
    let h = c.self.invariant in
    omega (arith, h.counted, few_open g.N.Naming.about.program.value c.self.inside.seat.events h.book.legal.stand)

pub invariant_of-result : goal.invariant_of-result
invariant_of-result g c =
    let about = g.N.Naming.about in
    let i = c.self.inside in
    let h = c.self.invariant in
    let es = i.seat.events in
    let t = c.pass.inside.task in
    let start = c.args.start.now in
    let child = c.len-child.result in
    let next = c.len-child.ensures ∙ c.reserve_spawn.new.ends.ok.0 ∙ ap length c.in-Ok.ensures.ends ∙ h.ended.all in
    let room : tasks_of es < 4096 = omega (arith, c.len.ensures ∙ i.ends.ok.0 ∙ h.ended.all, c.if-len-ge-MOST_TASKS.false) in
    let run = (view_is about.program.value es t c.pass.inside.seat c.pass.invariant.task c.meet.ensures.fits).running in
    let may : IsSpawn about.program.value es t child start = record { running = run; of_program = c.requires.valid.place; next = next; room = room } in
    let history = history_push about es (Ev.Spawn t child start) h.book.history may tt tt in
    let is : c.spawn-event.result.1 ≡ begun child (Some start) (es ++ Ev.Spawn t child start ∷ []) =
    c.spawn-event.ensures.child ∙ (λ k. begun child (Some (c.in-Ok.ensures.start k)) ((c.meet.ensures.book k).events ++ Ev.Spawn t child (c.in-Ok.ensures.start k) ∷ [])) in
    subst (IsPass about child) (sym is) (child_pass about c.pass.invariant.valid es t child start h.book.history history next)

pub invariant_of-self-2 : goal.invariant_of-self-2
invariant_of-self-2 g c =
    let about = g.N.Naming.about in
    let i = c.self.inside in
    let h = c.self.invariant in
    let es = i.seat.events in
    let t = c.pass.inside.task in
    let start = c.args.start.now in
    let child = c.len-child.result in
    let next = c.len-child.ensures ∙ c.reserve_spawn.new.ends.ok.0 ∙ ap length c.in-Ok.ensures.ends ∙ h.ended.all in
    let room : tasks_of es < 4096 = omega (arith, c.len.ensures ∙ i.ends.ok.0 ∙ h.ended.all, c.if-len-ge-MOST_TASKS.false) in
    let run = (view_is about.program.value es t c.pass.inside.seat c.pass.invariant.task c.meet.ensures.fits).running in
    let may : IsSpawn about.program.value es t child start = record { running = run; of_program = c.requires.valid.place; next = next; room = room } in
    parts_spawned about es i.seat i.events.items i.index i.keys.keys i.ends.items i.unfinished h t child start
    c.spawn-event.new.book c.push_reserved.new.self.items c.push_reserved-2.new.self.items (i.unfinished + 1)
    (c.spawn-event.ensures.book ∙ (λ k. at_rest ((c.meet.ensures.book k).events ++ Ev.Spawn t child (c.in-Ok.ensures.start k) ∷ [])))
    (c.push_reserved.ensures.items ∙ (λ k. c.in-Ok.ensures.events k ++ (c.spawn-event.ensures.event ∙ ap (Ev.Spawn t child) c.in-Ok.ensures.start) k ∷ []))
    (c.push_reserved-2.ensures.items ∙ ap (λ xs. xs ++ None ∷ []) c.in-Ok.ensures.ends)
    refl may c.requires.valid

pub invariant_of-pass-2 : goal.invariant_of-pass-2
invariant_of-pass-2 g c =
    noted_pass g.N.Naming.about c.self.inside.seat.events c.meet.new.book.events (Ev.Spawn c.pass.inside.task c.len-child.result c.in-Ok.copy) c.pass.inside.task c.pass.inside.seat c.meet.new.seat c.spawn-event.new.seat
    c.pass.invariant c.meet.ensures.fits.prefix (ap (λ (b : BookView). b.events) c.meet.ensures.book) c.meet.ensures.seat c.spawn-event.ensures.seat
