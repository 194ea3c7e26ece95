use Rattle.std.proofs.Common.{subst}
use Rattle.jl_history.specs.Numbered.{IsNumbered}
use Rattle.jl_replay.proofs.Judgements.{are_read}
use Rattle.jl_replay.proofs.top.replay.Goals as goal

pub judge_text-requires-clause-read : goal.judge_text-requires-clause-read
judge_text-requires-clause-read g c =
    let numbered : IsNumbered c.program.result.now =
    let numbered = c.is_numbered-numbered.ensures.0 c.if-not-numbered.false in record { sites = numbered.0; spawns = numbered.1; deletes = numbered.2 } in
    are_read c.args.ready.now c.args.text.now c.valid.ensures (subst IsNumbered c.program.ensures numbered) c.requires.short
