use Rattle.std.proofs.Common.{◌∙◌, sym}
use Rattle.jl_work.proofs.SplitLemmas.{place_within}
use Rattle.jl_cli.specs.Split.{separators}
use Rattle.jl_cli.proofs.Running.{no_history_so, parted_so}
use Rattle.jl_cli.proofs.judging.replayed.Goals as goal

pub split_at-requires : goal.split_at-requires
split_at-requires g c = place_within separators c.args.bytes.now c.in-Some.place (sym c.separator_at.ensures ∙ c.in-Some.is)

pub returns-in-Some : goal.returns-in-Some
returns-in-Some g c =
    parted_so c.judge.result c.args.bytes.now _ _ c.in-Some.place c.requires (sym c.separator_at.ensures ∙ c.in-Some.is) c.split_at.ensures.front c.split_at.ensures.back c.judge.ensures

pub returns-in_ok-line-in-None : goal.returns-in_ok-line-in-None
returns-in_ok-line-in-None g c =
    no_history_so c.refusal.result c.args.bytes.now c.in_ok-line-in-None.line c.requires (sym c.separator_at.ensures ∙ c.in-None.is) (c.in_ok-line-in-None.ensures ∙ c.as_bytes.ensures.value) c.refusal.ensures
