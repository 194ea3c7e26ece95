use Rattle.std.proofs.Common.{◌++◌, ◌∙◌, ap, refl, List, ◌∷◌, []}
use Rattle.jl_program.specs.declared.tree.Program.{Program}
use Rattle.jl_calculus.specs.declared.history.Event.{Event}
use Rattle.jl_calculus.specs.declared.history.Event.TheVariants as Ev
use Rattle.jl_replay.proofs.Followed.{begun, tasks_are}
use Rattle.jl_replay.proofs.runs.Runs.begin.Goals as goal

pub returns-clause-followed : goal.returns-clause-followed
returns-clause-followed c =
    let fuel = c.args.fuel in
    begun c.args.ready.now c.args.entries.now c.requires.judged fuel c.valid.ensures c.requires.first c.in_ok-machine.machine c.in_ok-machine.ensures.begun (record { led = c.note.new.self; tasks = c.push.new.self; fuel = fuel })
    (c.in_ok-note.ensures.added ∙ ap (λ (v : Program × List Event). (v.0, v.1 ++ Ev.Begin fuel ∷ [])) (c.new-led.ensures.past ∙ c.in_ok-past.ensures)) refl
    (tasks_are c.push.new.self.items c.new-tasks.result.items c.begin_at.result _ c.in_ok-push.ensures.items c.new-tasks.ensures.items c.begin_at.ensures)
