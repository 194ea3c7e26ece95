use Rattle.std.proofs.Common.{refl}
use Rattle.jl_replay.proofs.Followed.{key_followed, key_there}
use Rattle.jl_replay.proofs.runs.Runs.follow_key.Goals as goal

pub unreachable-requires : goal.unreachable-requires
unreachable-requires c =
    let q = c.requires in
    key_there c.args.ready.now c.args.entries.now q.judged c.args.n c.args.function.now c.args.tuple.now q.entry (rw c.in-None.is at c.in_ok-key.ensures)

pub returns : goal.returns
returns c =
    let q = c.requires in
    let key = c.in-Some.key in
    let named = rw c.in-Some.is at c.in_ok-key.ensures in
    key_followed c.args.ready.now c.args.entries.now q.judged c.args.self.now q.followed c.args.n q.here (record { led = c.note.new.self; tasks = c.args.self.now.tasks; fuel = c.args.self.now.fuel }) c.args.function.now c.args.tuple.now key q.entry named.0 c.in_ok-note-in-Some.ensures.added refl refl
