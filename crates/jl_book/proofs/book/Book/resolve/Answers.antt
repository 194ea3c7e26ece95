use Rattle.std.proofs.Common.{◌≡◌, ◌∙◌, ap, sym, subst, arith, length, ◌≤◌}
use Rattle.jl_calculus.specs.Legal.{IsKeyOf}
use Rattle.jl_calculus.specs.Ranges.{keys_of}
use Rattle.jl_calculus.specs.World.{world_of}
use Rattle.jl_methods.specs.Indexed.{IsIndexOf}
use Rattle.jl_methods.proofs.FunctionLemmas.{all_get}
use Rattle.jl_rows.specs.Plans.{IsPlanFor, with_row}
use Rattle.jl_world.specs.declared.view.BookView.{BookView}
use Rattle.jl_world.specs.declared.view.TaskView.{TaskView}
use Rattle.jl_world.specs.Views.{Begins}
use Rattle.jl_world.proofs.Growth.{keys_grow, worlds_grow}
use Rattle.jl_book.proofs.PlanLemmas.{plan_choice, plan_kept}
use Rattle.jl_book.proofs.book.Book.resolve.Goals as goal

pub plan_for_key-requires-clause-index : goal.plan_for_key-requires-clause-index
plan_for_key-requires-clause-index g c =
    subst (λ (b : BookView). IsIndexOf g.N.Naming.about.program.value b.events c.self.inside.index) (sym c.meet.ensures.book) c.self.invariant.filters

pub plan_for_key-requires-clause-key : goal.plan_for_key-requires-clause-key
plan_for_key-requires-clause-key g c =
    let es = c.self.inside.seat.events in
    let b = subst (λ (v : TaskView). Begins v.seen es) c.pass.view_is c.meet.ensures.fits.prefix in
    omega (arith, c.key-key.ensures, c.requires.key, keys_grow c.args.pass.now.seen es b, ap (λ (b : BookView). length (keys_of b.events)) c.meet.ensures.book)

pub plan_for_key-requires-clause-world : goal.plan_for_key-requires-clause-world
plan_for_key-requires-clause-world g c =
    let es = c.self.inside.seat.events in
    let b = subst (λ (v : TaskView). Begins v.seen es) c.pass.view_is c.meet.ensures.fits.prefix in
    (omega (arith, c.world-2.ensures, c.requires.world), omega (arith, c.world-2.ensures, c.requires.world, worlds_grow c.args.pass.now.seen es b, ap (λ (b : BookView). world_of b.events) c.meet.ensures.book))

pub returns-clause-choice : goal.returns-clause-choice
returns-clause-choice g c =
    let about = g.N.Naming.about in
    let es = c.self.inside.seat.events in
    let n = c.args.miss.key in
    let w = c.args.miss.world in
    let plan = c.in_ok-plan.plan in
    let seen = c.args.pass.now.seen in
    let b = subst (λ (v : TaskView). Begins v.seen es) c.pass.view_is c.meet.ensures.fits.prefix in
    let low : w ≤ world_of es = omega (arith, c.requires.world, worlds_grow seen es b) in
    let met : c.meet.new.book.events ≡ es = ap (λ (b : BookView). b.events) c.meet.ensures.book in
    let made : IsPlanFor about es n w plan =
    subst (λ xs. IsPlanFor about xs n w plan) met
    (subst (λ k. IsPlanFor about c.meet.new.book.events k w plan) c.key-key.ensures (subst (λ k. IsPlanFor about c.meet.new.book.events c.key-key.result k plan) c.world-2.ensures c.in_ok-plan.ensures.plan))
    in
    let added : c.make_row.new.self ≡ with_row es n plan.row =
    c.in_ok-row.ensures.added ∙ ap (λ (b : BookView). with_row b.events c.key-key.result plan.row) (c.in_ok-plan.ensures.same ∙ c.meet.ensures.book) ∙ ap (λ k. with_row es k plan.row) c.key-key.ensures
    in
    plan_choice about seen es c.make_row.new.self n w plan b low made added

pub returns-clause-kept : goal.returns-clause-kept
returns-clause-kept g c =
    let about = g.N.Naming.about in
    let es = c.self.inside.seat.events in
    let n = c.args.miss.key in
    let w = c.args.miss.world in
    let plan = c.in_ok-plan.plan in
    let seen = c.args.pass.now.seen in
    let b = subst (λ (v : TaskView). Begins v.seen es) c.pass.view_is c.meet.ensures.fits.prefix in
    let low : w ≤ world_of es = omega (arith, c.requires.world, worlds_grow seen es b) in
    let met : c.meet.new.book.events ≡ es = ap (λ (b : BookView). b.events) c.meet.ensures.book in
    let made : IsPlanFor about es n w plan =
    subst (λ xs. IsPlanFor about xs n w plan) met
    (subst (λ k. IsPlanFor about c.meet.new.book.events k w plan) c.key-key.ensures (subst (λ k. IsPlanFor about c.meet.new.book.events c.key-key.result k plan) c.world-2.ensures c.in_ok-plan.ensures.plan))
    in
    let added : c.make_row.new.self ≡ with_row es n plan.row =
    c.in_ok-row.ensures.added ∙ ap (λ (b : BookView). with_row b.events c.key-key.result plan.row) (c.in_ok-plan.ensures.same ∙ c.meet.ensures.book) ∙ ap (λ k. with_row es k plan.row) c.key-key.ensures
    in
    let proper = all_get (IsKeyOf about.program.value) (keys_of es) n made.key c.self.invariant.filters.proper_keys made.named in
    plan_kept about seen es c.make_row.new.self n w plan b low made added c.pass.invariant.valid proper
