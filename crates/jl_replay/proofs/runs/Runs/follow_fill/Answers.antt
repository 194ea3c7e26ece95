use Rattle.std.proofs.Common.{refl}
use Rattle.jl_replay.proofs.Followed.{fill_followed}
use Rattle.jl_replay.proofs.runs.Runs.follow_fill.Goals as goal

pub returns : goal.returns
returns c =
    let q = c.requires in
    fill_followed c.args.ready.now c.args.entries.now q.judged c.args.self.now q.followed c.args.n q.here (record { led = c.note.new.self; tasks = c.args.self.now.tasks; fuel = c.args.self.now.fuel }) c.args.key c.args.site c.args.first q.entry c.in_ok-note.ensures.added refl refl
