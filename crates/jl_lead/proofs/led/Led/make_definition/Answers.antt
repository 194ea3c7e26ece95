use Rattle.std.proofs.Common.{arith, refl, subst, drop}
use Rattle.jl_calculus.specs.declared.history.Event.TheVariants as Ev
use Rattle.jl_lead.specs.Stretch.{IsLeft}
use Rattle.jl_lead.proofs.ItemFacts.{stretch_few}
use Rattle.jl_lead.proofs.Whole.{placed_on, placed_same, placed_more, left_same, definition_full, definition_lost, definition_made}
use Rattle.jl_lead.proofs.led.Led.make_definition.Goals as goal

pub invariant_of-self : goal.invariant_of-self
invariant_of-self c =
    let s = c.args.self.now in
    record { placed = placed_on s.past.1 s.task s.seen c.len-self.result s.placed (let e = c.len-self.ensures in omega (arith, e)); left = λ l. c.len-self.ensures }

pub returns-then-is_full : goal.returns-then-is_full
returns-then-is_full c =
    let s = c.args.self.now in
    let full = c.is_full.ensures.full c.if-is_full.true in
    definition_full s.past.0 s.past.1 s.task s.items.items s.told s.seen s.looks s.alone c.args.site c.len-self.result c.requires.next full.1 s.left s.placed.seen_some c.len-self.ensures full.0

pub returns-then-self : goal.returns-then-self
returns-then-self c =
    let s = c.args.self.now in
    definition_lost s.past.0 s.past.1 s.task s.items.items s.told s.seen s.looks s.alone c.args.site s.past refl s.left (c.is_full.ensures.room c.if-is_full.false)

pub make-requires-clause-room : goal.make-requires-clause-room
make-requires-clause-room c =
    let s = c.args.self.now in
    let is = drop s.told s.items.items in
    stretch_few s.past.0 s.past.1 s.seen is (subst (λ b. IsLeft s.past.0 b s.past.1 s.seen is) c.if-self.false s.left)

pub invariant_of-self-in-Ok : goal.invariant_of-self-in-Ok
invariant_of-self-in-Ok c =
    let s = c.args.self.now in
    record {
      placed = placed_more s.past.0 s.past.1 (Ev.Def s.task c.args.site) s.task s.seen c.len-self-in-Ok.result c.make.new.self s.placed c.in-Ok.ensures.added c.len-self-in-Ok.ensures;
      left = λ l. c.len-self-in-Ok.ensures;
    }

pub returns-in-Ok : goal.returns-in-Ok
returns-in-Ok c =
    let s = c.args.self.now in
    definition_made s.past.0 s.past.1 s.task s.items.items s.told s.seen s.looks s.alone c.args.site c.world.result c.len-self-in-Ok.result c.make.new.self c.if-self.false c.requires.next s.left s.placed.seen_some
    (c.is_full.ensures.room c.if-is_full.false) c.in-Ok.ensures.added c.len-self-in-Ok.ensures c.world.ensures.exact

pub invariant_of-self-in-Err : goal.invariant_of-self-in-Err
invariant_of-self-in-Err c =
    let s = c.args.self.now in
    record {
      placed = placed_same c.make.new.self s.past s.task s.seen c.in-Err.ensures.refused s.placed;
      left = left_same c.make.new.self s.past s.alone s.seen _ c.in-Err.ensures.refused s.left;
    }

pub returns-in-Err : goal.returns-in-Err
returns-in-Err c =
    let s = c.args.self.now in
    definition_lost s.past.0 s.past.1 s.task s.items.items s.told s.seen s.looks s.alone c.args.site c.make.new.self c.in-Err.ensures.refused s.left (c.is_full.ensures.room c.if-is_full.false)
