use Rattle.std.proofs.Common.{sym, ap, subst, inl, ◌∙◌}
use Rattle.jl_machine.specs.declared.task.Task.{Task}
use Rattle.jl_task.specs.Asks.{Follows}
use Rattle.jl_machine.proofs.Whole.{working, fitting, program_is, settled_is, step_fits, step_fuel, step_turns, step_tells, step_knows, step_kept, waits_fit, waits_known, types_at, types_are}
use Rattle.jl_machine.proofs.Moving.{fits_after, then_on}
use Rattle.jl_machine.proofs.task.Machine.step.Goals as goal

pub turn-requires : goal.turn-requires
turn-requires g c =
    let w = working c.args.self.now.work c.in_default.not-Ended c.in_default.not-Lost in
    record {
      fits = fitting c.args.ready.now _ c.args.self.now.work c.args.self.now.task w c.requires.task;
      settled = settled_is c.args.ready.now _ c.args.self.now.work c.args.self.now.task w c.requires.task;
      program = program_is c.args.ready.now _ c.args.self.now.work c.args.self.now.task w c.requires.task;
      working = w;
      types = types_are c.args.ready.now c.args.self.now.work c.args.self.now.memo w c.requires.types;
    }

pub go_on-requires : goal.go_on-requires
go_on-requires g c =
    let w = working c.args.self.now.work c.in_default.not-Ended c.in_default.not-Lost in
    let s = rw c.in-Go.is at c.in_ok-next-in_default.ensures.goes in
    record {
      types = c.turn.ensures.types ∙ types_are c.args.ready.now c.args.self.now.work c.args.self.now.memo w c.requires.types;
      fits = fits_after _ _ _ c.args.self.now.task c.in-Go.next c.turn.new.self s;
      program = program_is c.args.ready.now _ c.args.self.now.work c.args.self.now.task w c.requires.task ∙ sym s.steps.fits.program;
      settled = s.settled;
    }

pub returns-in_ok-last-in-Go : goal.returns-in_ok-last-in-Go
returns-in_ok-last-in-Go g c =
    let w = working c.args.self.now.work c.in_default.not-Ended c.in_default.not-Lost in
    let s = then_on _ _ _ c.args.self.now.task c.in-Go.next c.turn.new.self (rw c.in-Go.is at c.in_ok-next-in_default.ensures.goes) c.in_ok-last-in-Go.last c.go_on.new.self c.in_ok-last-in-Go.ensures.on in
    record {
      fits = record {
        task = step_fits c.args.ready.now _ c.args.self.now.work c.args.self.now.task w c.requires.task _ c.in_ok-last-in-Go.last c.go_on.new.self s;
        types = types_at c.args.ready.now c.in_ok-last-in-Go.last c.go_on.new.memo (c.go_on.ensures.types ∙ c.turn.ensures.types ∙ types_are c.args.ready.now c.args.self.now.work c.args.self.now.memo w c.requires.types);
      };
      turn = step_turns c.args.ready.now _ c.args.self.now.work c.args.self.now.task w c.requires.task _ c.in_ok-last-in-Go.last c.go_on.new.self s;
      waits = tt;
      fuel = step_fuel c.args.ready.now _ c.args.self.now.work c.args.self.now.task w c.requires.task _ c.in_ok-last-in-Go.last c.go_on.new.self s;
      tells = step_tells c.args.ready.now _ c.args.self.now.work c.args.self.now.task w c.requires.task _ c.in_ok-last-in-Go.last c.go_on.new.self s;
      knows = step_knows c.args.ready.now _ c.args.self.now.work c.args.self.now.task w c.requires.task _ c.in_ok-last-in-Go.last c.go_on.new.self s;
      follows = s.steps.follows;
      lost = tt;
      kept = step_kept c.args.ready.now _ c.args.self.now.work c.args.self.now.task w c.requires.task _ c.in_ok-last-in-Go.last c.go_on.new.self s;
      still = λ lost. absurd (c.in_default.not-Lost lost);
    }

pub returns-in-Wait : goal.returns-in-Wait
returns-in-Wait g c =
    let w = working c.args.self.now.work c.in_default.not-Ended c.in_default.not-Lost in
    let s = rw c.in-Wait.is at c.in_ok-next-in_default.ensures.goes in
    record {
      fits = record {
        task = waits_fit c.args.ready.now _ c.args.self.now.work c.args.self.now.task w c.requires.task _ c.in-Wait.task c.turn.new.self s;
        types = types_at c.args.ready.now c.args.self.now.work c.turn.new.memo (c.turn.ensures.types ∙ types_are c.args.ready.now c.args.self.now.work c.args.self.now.memo w c.requires.types);
      };
      turn = λ i. record { task = s.same i; work = c.args.self.now.work; memo = c.turn.ensures.types i };
      waits = s.running;
      fuel = ap (λ (t : Task). t.fuel) s.same;
      tells = inl (ap (λ (t : Task). t.trace) s.same);
      knows = waits_known c.args.ready.now _ c.args.self.now.work c.args.self.now.task w c.requires.task _ c.in-Wait.task c.turn.new.self s;
      follows = subst (λ (t : Task). Follows (g.D.Dispatcher.knows c.args.with.now) c.args.self.now.task.trace (g.D.Dispatcher.knows c.turn.new.with) t.trace) (sym s.same) s.waits.follows;
      lost = tt;
      kept = c.in_default.not-Lost;
      still = λ lost. absurd (c.in_default.not-Lost lost);
    }
