use Rattle.std.proofs.Common.{◌∙◌, ap, sym, subst, refl, arith, take, [], ◌∷◌, ◌++◌}
use Rattle.jl_program.specs.Prelude.{prelude_count}
use Rattle.jl_calculus.specs.World.{Selects}
use Rattle.jl_methods.specs.Filters.{IsOfProgram}
use Rattle.jl_reflect.specs.Chosen.{AreChosenUpTo}
use Rattle.jl_reflect.proofs.Gathered.{first_chosen}
use Rattle.jl_reflect.proofs.Comes.{of_program, has_room, none_on, made_next, untouched_on, few, touched_on}
use Rattle.jl_reflect.proofs.choices.choices.Goals as goal

pub loop-event-init : goal.loop-event-init
loop-event-init c =
    let P = c.args.ready.now in
    let es = c.args.events.now in
    let key = c.args.key.now in
    let begins = c.in_ok-changes.ensures in
    let chosen = subst (λ Q. Selects Q es key.function key.types prelude_count c.in_ok-choose.field-0) (ap (λ v. v.0) begins) (c.in_ok-choose.ensures.choice es (ap (λ v. take prelude_count v.1) (sym begins))) in (
      c.in_ok-choose.ensures.same ∙ begins,
      subst (AreChosenUpTo P es key prelude_count) (sym (c.in_ok-push.ensures.items ∙ ap (λ xs. xs ++ record { world = prelude_count; choice = c.in_ok-choose.field-0 } ∷ []) c.new-all.ensures.items))
          (first_chosen P es key (record { world = prelude_count; choice = c.in_ok-choose.field-0 }) refl chosen),
    )

pub loop-event-preserved-in_default : goal.loop-event-preserved-in_default
loop-event-preserved-in_default c =
    none_on c.args.ready.now c.args.events.now c.args.key.now c.requires.stand c.loop-event.event-index c.event-item.result c.loop-event-test.true c.event-item.is c.loop-event.changes c.loop-event.all.items
    (sym c.change_of.ensures ∙ c.in_default.is) c.loop-event.invariant

pub push-requires-in-loop-event-clause-change : goal.push-requires-in-loop-event-clause-change
push-requires-in-loop-event-clause-change c =
    subst (λ v. IsOfProgram v.0 c.in-Some.change) (sym c.loop-event.invariant.0)
    (of_program c.args.ready.now c.args.events.now c.args.key.now c.requires.stand c.loop-event.event-index c.event-item.result c.loop-event-test.true c.event-item.is c.in-Some.change (sym c.change_of.ensures ∙ c.in-Some.is))

pub push-requires-in-loop-event-clause-room : goal.push-requires-in-loop-event-clause-room
push-requires-in-loop-event-clause-room c =
    let z = has_room c.args.ready.now c.args.events.now c.args.key.now c.requires.stand c.loop-event.event-index c.event-item.result c.loop-event-test.true c.event-item.is c.in-Some.change c.loop-event.changes.1 (sym c.change_of.ensures ∙ c.in-Some.is)
    (ap (λ v. v.1) c.loop-event.invariant.0) in omega (arith, z)

pub touches-requires-clause-change : goal.touches-requires-clause-change
touches-requires-clause-change c =
    of_program c.args.ready.now c.args.events.now c.args.key.now c.requires.stand c.loop-event.event-index c.event-item.result c.loop-event-test.true c.event-item.is c.in-Some.change (sym c.change_of.ensures ∙ c.in-Some.is)

pub loop-event-preserved-then-not-branch : goal.loop-event-preserved-then-not-branch
loop-event-preserved-then-not-branch c =
    let q = sym c.change_of.ensures ∙ c.in-Some.is in (
      made_next c.args.ready.now c.args.events.now c.args.key.now c.requires.stand c.loop-event.event-index c.event-item.result c.loop-event-test.true c.event-item.is c.in-Some.change q c.loop-event.changes c.push-in-loop-event.new.self
          c.loop-event.invariant.0 c.in_ok-push-2.ensures.added,
      untouched_on c.args.ready.now c.args.events.now c.args.key.now c.requires.stand c.loop-event.event-index c.event-item.result c.loop-event-test.true c.event-item.is c.in-Some.change q c.loop-event.changes c.push-in-loop-event.new.self
          c.loop-event.invariant.0 c.in_ok-push-2.ensures.added c.loop-event.all.items c.loop-event.invariant.1 (λ t. absurd (cc (sym (c.in_ok-touches.ensures.1 t) ∙ c.if-not-branch.true))),
    )

pub overflow_cast-world : goal.overflow_cast-world
overflow_cast-world c =
    let q = sym c.change_of.ensures ∙ c.in-Some.is in
    let z = few c.args.ready.now c.args.events.now c.args.key.now c.requires.stand c.loop-event.event-index c.event-item.result c.loop-event-test.true c.event-item.is c.in-Some.change q c.loop-event.changes c.push-in-loop-event.new.self
    c.loop-event.invariant.0 c.in_ok-push-2.ensures.added c.all.result.now c.all.ensures in omega (arith, z)

pub loop-event-preserved : goal.loop-event-preserved
loop-event-preserved c =
    let q = sym c.change_of.ensures ∙ c.in-Some.is in (
      c.in_ok-choice.ensures.same
          ∙ made_next c.args.ready.now c.args.events.now c.args.key.now c.requires.stand c.loop-event.event-index c.event-item.result c.loop-event-test.true c.event-item.is c.in-Some.change q c.loop-event.changes c.push-in-loop-event.new.self
          c.loop-event.invariant.0 c.in_ok-push-2.ensures.added,
      touched_on c.args.ready.now c.args.events.now c.args.key.now c.requires.stand c.loop-event.event-index c.event-item.result c.loop-event-test.true c.event-item.is c.in-Some.change q c.loop-event.changes c.push-in-loop-event.new.self
          c.loop-event.invariant.0 c.in_ok-push-2.ensures.added c.loop-event.all.items (omega arith) c.loop-event.invariant.1 c.all.result.now c.all.ensures c.in_ok-choice.choice c.in_ok-choice.ensures.choice
          c.push-in-loop-event-2.new.self.items c.in_ok-push-3.ensures.items,
    )
