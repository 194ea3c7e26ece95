use Rattle.std.proofs.Common.{inl, refl, sym, subst, ◌∙◌}
use Rattle.jl_machine.specs.declared.task.Task.{Task}
use Rattle.jl_machine.specs.Steps.{GoesOn}
use Rattle.jl_machine.proofs.Moving.{once_more, goes_further, on_fits, on_settled, on_fewer}
use Rattle.jl_machine.proofs.task.Task.go_on.Goals as goal

pub alone-init : goal.alone-init
alone-init g c = record { on = inl (refl, refl); types = refl }

pub go_often-requires : goal.go_often-requires
go_often-requires g c = record {
  types = c.alone.invariant.types ∙ c.requires.types;
  fits = on_fits _ c.args.first c.args.self.now c.alone.work c.alone.self c.alone.invariant.on c.requires.fits;
  program = c.requires.program;
  settled = on_settled _ c.args.first c.args.self.now c.alone.work c.alone.self c.alone.invariant.on c.requires.settled;
}

pub turn_seldom-requires : goal.turn_seldom-requires
turn_seldom-requires g c =
    let all = goes_further _ c.args.first c.args.self.now c.alone.work c.alone.self c.alone.invariant.on c.in_ok-last.last c.go_often.new.self c.in_ok-last.ensures.on in
    record {
      fits = on_fits _ c.args.first c.args.self.now c.in_ok-last.last c.go_often.new.self all c.requires.fits;
      settled = on_settled _ c.args.first c.args.self.now c.in_ok-last.last c.go_often.new.self all c.requires.settled;
    }

pub alone-smaller : goal.alone-smaller
alone-smaller g c =
    on_fewer _ c.alone.work c.alone.self c.in_ok-last.last c.go_often.new.self c.in_ok-last.ensures.on c.in-Some.next c.turn_seldom.new.self (rw c.in-Some.is at c.in_ok-next.ensures)

pub alone-preserved : goal.alone-preserved
alone-preserved g c =
    let all = goes_further _ c.args.first c.args.self.now c.alone.work c.alone.self c.alone.invariant.on c.in_ok-last.last c.go_often.new.self c.in_ok-last.ensures.on in
    record {
      on = once_more _ c.args.first c.args.self.now c.in_ok-last.last c.go_often.new.self all c.in-Some.next c.turn_seldom.new.self (rw c.in-Some.is at c.in_ok-next.ensures);
      types = c.go_often.ensures.types ∙ c.alone.invariant.types;
    }

pub returns-in-None : goal.returns-in-None
returns-in-None g c =
    let all = goes_further _ c.args.first c.args.self.now c.alone.work c.alone.self c.alone.invariant.on c.in_ok-last.last c.go_often.new.self c.in_ok-last.ensures.on in
    record {
      on = subst (λ (t : Task). GoesOn (g.D.Dispatcher.knows c.args.with.now) c.args.first c.args.self.now c.in_ok-last.last t) (sym (rw c.in-None.is at c.in_ok-next.ensures)) all;
      types = c.go_often.ensures.types ∙ c.alone.invariant.types;
    }
