use Rattle.std.proofs.Common.{◌≡◌, ◌∙◌, length, arith}
use Rattle.jl_replay.proofs.Judgements.{apart_of, some_entry}
use Rattle.jl_replay.proofs.Whole.{all_legal}
use Rattle.jl_replay.proofs.difference.first_difference.Goals as goal

-- src/difference.rt:45:5
pub loop-n-init : goal.loop-n-init
loop-n-init g c = (
  record { apart = apart_of c.law_keys_apart.ensures c.args.ready.now c.valid.ensures; well = c.requires.begun; clean = c.requires.clean },
  c.in_ok-ends.ensures,
  c.in_ok-runs.ensures.followed,
  c.in_ok-runs.ensures.many,
  some_entry c.args.entries.now c.requires.begun,
)

-- src/difference.rt:30:1
pub returns : goal.returns
returns g c =
    let (j, ends, followed, many, within) = c.loop-n.invariant in
    let here : c.loop-n.n ≡ length c.args.entries.now = omega (arith, within, c.loop-n-test.false, c.requires.few) in
    all_legal c.args.ready.now c.args.entries.now j c.loop-n.runs.led.past.1 followed.replayed (many ∙ here)
