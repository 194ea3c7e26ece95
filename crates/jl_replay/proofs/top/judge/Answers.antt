use Rattle.std.proofs.Common.{subst, ℕ, MatchOption}
use Rattle.jl_causes.specs.declared.cause.Cause.{Cause}
use Rattle.jl_causes.specs.Causes.{HasNoCause, IsFirstCause}
use Rattle.jl_report.specs.HistoryText.{has_places}
use Rattle.jl_replay.proofs.Judgements.{apart_of, well_of, judged_cause}
use Rattle.jl_replay.proofs.top.judge.Goals as goal

-- src/top.rt:34:31
pub first_cause-requires-clause-begun : goal.first_cause-requires-clause-begun
first_cause-requires-clause-begun g c = well_of (has_places c.args.ready.now) c.args.entries.now c.requires.form.0

-- src/top.rt:35:9
pub returns-in-Some : goal.returns-in-Some
returns-in-Some g c =
    judged_cause c.args.ready.now (apart_of c.law_keys_apart.ensures c.args.ready.now c.valid.ensures) c.args.entries.now c.in-Some.n c.in-Some.cause
    (subst (λ found. MatchOption found (HasNoCause c.args.ready.now c.args.entries.now) (λ (x : ℕ × Cause). IsFirstCause c.args.ready.now c.args.entries.now x.0 x.1)) c.in-Some.is c.in_ok-n.ensures)

-- src/top.rt:37:11
pub first_difference-requires-clause-begun : goal.first_difference-requires-clause-begun
first_difference-requires-clause-begun g c = well_of (has_places c.args.ready.now) c.args.entries.now c.requires.form.0
