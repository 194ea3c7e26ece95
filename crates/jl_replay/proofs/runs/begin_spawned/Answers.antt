use Rattle.jl_replay.proofs.Beginning.{new_from}
use Rattle.jl_replay.proofs.runs.begin_spawned.Goals as goal

pub unreachable-requires : goal.unreachable-requires
unreachable-requires c = c.requires.there c.in-None.ensures.there

pub returns : goal.returns
returns c =
    let start = c.in-Some.start.now in
    record {
      start = start;
      spawned = c.in-Some.ensures.there;
      new = new_from c.args.ready.now start c.args.fuel c.args.seen c.in_ok-machine-in-Some.machine c.begin_at.result c.in_ok-machine-in-Some.ensures.begun c.begin_at.ensures;
    }
