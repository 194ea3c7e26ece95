use Rattle.std.proofs.Common.{refl}
use Rattle.jl_replay.proofs.Followed.{spawn_followed}
use Rattle.jl_replay.proofs.runs.Runs.follow_spawn.Goals as goal

pub returns : goal.returns
returns g c =
    let q = c.requires in
    let a = c.args in
    let s = rw c.if-not-came.false at c.in_ok-came.ensures in
    let mid = c.come_to_spawn.new.self in
    spawn_followed a.ready.now a.entries.now q.judged a.self.now q.followed a.n q.here a.task a.child a.place q.entry mid s c.valid.ensures c.sound.ensures c.len-seen.result c.len-seen.ensures
    (record { led = mid.led; tasks = c.push.new.self; fuel = mid.fuel }) refl refl c.in_ok-push.ensures.items
