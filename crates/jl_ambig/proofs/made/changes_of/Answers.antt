use Rattle.std.proofs.Common.{◌∙◌, ap, sym, subst, arith, length}
use Rattle.std.proofs.lemmas.List.{length_push}
use Rattle.jl_methods.specs.Filters.{IsOfProgram}
use Rattle.jl_ambig.proofs.MadeLemmas.{of_program, has_room, none_on, made_next, made_all}
use Rattle.jl_ambig.proofs.made.changes_of.Goals as goal

pub loop-event-init : goal.loop-event-init
loop-event-init c = (c.in_ok-made.ensures, let e = ap (λ v. length v.1) c.in_ok-made.ensures in omega (arith, e))

pub loop-event-preserved-in_default : goal.loop-event-preserved-in_default
loop-event-preserved-in_default c = (
  none_on c.args.ready.now c.args.events.now c.requires c.loop-event.event-index c.event-item.result c.loop-event-test.true c.event-item.is c.loop-event.made (sym c.change_of.ensures ∙ c.in_default.is) c.loop-event.invariant.0,
  c.loop-event.invariant.1,
)

pub push-requires-clause-change : goal.push-requires-clause-change
push-requires-clause-change c =
    subst (λ v. IsOfProgram v.0 c.in-Some.change) (sym c.loop-event.invariant.0)
    (of_program c.args.ready.now c.args.events.now c.requires c.loop-event.event-index c.event-item.result c.loop-event-test.true c.event-item.is c.in-Some.change (sym c.change_of.ensures ∙ c.in-Some.is))

pub push-requires-clause-room : goal.push-requires-clause-room
push-requires-clause-room c = c.loop-event.invariant.1

pub loop-event-preserved : goal.loop-event-preserved
loop-event-preserved c =
    let q = sym c.change_of.ensures ∙ c.in-Some.is in
    let z = has_room c.args.ready.now c.args.events.now c.requires c.loop-event.event-index c.event-item.result c.loop-event-test.true c.event-item.is c.in-Some.change c.loop-event.made.1 q (ap (λ v. v.1) c.loop-event.invariant.0) in (
      made_next c.args.ready.now c.args.events.now c.requires c.loop-event.event-index c.event-item.result c.loop-event-test.true c.event-item.is c.in-Some.change q c.loop-event.made c.push.new.self c.loop-event.invariant.0
          c.in_ok-push.ensures.added,
      let e = ap (λ v. length v.1) c.in_ok-push.ensures.added in omega (arith, z, e, length_push c.loop-event.made.1 c.in-Some.change),
    )

pub returns-clause-all : goal.returns-clause-all
returns-clause-all c = made_all c.args.ready.now c.args.events.now c.loop-event.event-index c.loop-event.made (omega (arith, c.loop-event-test.false)) c.loop-event.invariant.0
