use Rattle.std.proofs.Common.{◌≡◌, ◌∙◌, ap, sym, subst, true, false}
use Rattle.jl_report.specs.declared.entry.Entry.TheVariants as E
use Rattle.jl_causes.specs.Causes.{is_begin}
use Rattle.jl_causes.specs.Judged.{IsJudged, IsKeyIn}
use Rattle.jl_causes.proofs.judge.Judge.find_cause.Goals as goal

pub returns-in-Begin : goal.returns-in-Begin
returns-in-Begin c = λ es h told later named. (let z : true ≡ false = sym (ap is_begin c.in-Begin.is) ∙ later in absurd (cc z))

pub judge_key-requires : goal.judge_key-requires
judge_key-requires c = let (es, h) = c.requires in (c.args.ready.now, c.args.entries.now, es, h)

pub returns-in-Key : goal.returns-in-Key
returns-in-Key c =
    let P = c.args.ready.now in
    λ es h told later named.
    subst (λ x. IsJudged P c.args.entries.now es x c.judge_key.result) (sym c.in-Key.is)
    (c.judge_key.ensures P c.args.entries.now es c.in-Key.function c.in-Key.tuple h (subst (λ x. IsKeyIn P x c.args.key.now) c.in-Key.is named))

pub judge_fill-requires : goal.judge_fill-requires
judge_fill-requires c = let (es, h) = c.requires in (c.args.entries.now, es, h)

pub returns-in_ok-found-in-Fill : goal.returns-in_ok-found-in-Fill
returns-in_ok-found-in-Fill c = λ es h told later named.
    subst (λ x. IsJudged c.args.ready.now c.args.entries.now es x c.in_ok-found-in-Fill.found) (sym c.in-Fill.is) (c.in_ok-found-in-Fill.ensures c.args.entries.now es h)

pub returns-in-Def : goal.returns-in-Def
returns-in-Def c = λ es h told later named.
    subst (λ x. IsJudged c.args.ready.now c.args.entries.now es x c.judge_def.result) (sym c.in-Def.is) (c.judge_def.ensures c.args.entries.now es h)

pub returns-in_ok-found-in-Del : goal.returns-in_ok-found-in-Del
returns-in_ok-found-in-Del c = λ es h told later named.
    subst (λ x. IsJudged c.args.ready.now c.args.entries.now es x c.in_ok-found-in-Del.found) (sym c.in-Del.is) (c.in_ok-found-in-Del.ensures c.args.entries.now es h)

pub judge_spawn-requires : goal.judge_spawn-requires
judge_spawn-requires c = let (es, h) = c.requires in (c.args.entries.now, es, h)

pub returns-in-Spawn : goal.returns-in-Spawn
returns-in-Spawn c = λ es h told later named.
    subst (λ x. IsJudged c.args.ready.now c.args.entries.now es x c.judge_spawn.result) (sym c.in-Spawn.is) (c.judge_spawn.ensures c.args.entries.now es h)

pub judge_done-requires : goal.judge_done-requires
judge_done-requires c = c.requires

pub returns-in_ok-found-in-Done : goal.returns-in_ok-found-in-Done
returns-in_ok-found-in-Done c =
    let P = c.args.ready.now in
    λ es h told later named.
    subst (λ x. IsJudged P c.args.entries.now es x c.in_ok-found-in-Done.found) (sym (c.in-Done.is ∙ ap (λ ts. E.Done c.in-Done.task c.in-Done.calls ts c.in-Done.output c.in-Done.ending) (sym c.as_slice.ensures)))
    (c.in_ok-found-in-Done.ensures es c.in-Done.calls c.in-Done.output c.in-Done.ending h told)
