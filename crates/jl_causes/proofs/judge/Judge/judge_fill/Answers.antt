use Rattle.jl_causes.proofs.JudgeLemmas.{not_yes, fill_no_key, fill_no_world, fill_no_choice, fill_clean, key_in}
use Rattle.jl_causes.proofs.judge.Judge.judge_fill.Goals as goal

pub is_next_fill-requires : goal.is_next_fill-requires
is_next_fill-requires c = let (all, es, h) = c.requires in (c.args.ready.now, es, h.rows)

pub returns-then-not-is_next_fill : goal.returns-then-not-is_next_fill
returns-then-not-is_next_fill c = λ all es h.
    fill_no_key c.args.ready.now all es c.args.key c.args.site c.args.first (not_yes c.is_next_fill.result (c.is_next_fill.ensures c.args.ready.now es h.rows) c.if-not-is_next_fill.true)

pub returns-then-not-begins_right : goal.returns-then-not-begins_right
returns-then-not-begins_right c = λ all es h.
    let P = c.args.ready.now in
    let n = (c.is_next_fill.ensures P es h.rows).0 c.if-not-is_next_fill.false in
    let (k, at) = key_in es c.args.key n.known in
    fill_no_world P all es c.args.key c.args.site c.args.first k at n (not_yes c.begins_right.result (c.begins_right.ensures P es k h.rows at) c.if-not-begins_right.true)

pub chooses_right-requires : goal.chooses_right-requires
chooses_right-requires c =
    let P = c.args.ready.now in
    let (all, es, h) = c.requires in
    let n = (c.is_next_fill.ensures P es h.rows).0 c.if-not-is_next_fill.false in
    let (k, at) = key_in es c.args.key n.known in (es, k, h.rows, at, (c.begins_right.ensures P es k h.rows at).0 c.if-not-begins_right.false)

pub returns-then-not-branch : goal.returns-then-not-branch
returns-then-not-branch c = λ all es h.
    let P = c.args.ready.now in
    let n = (c.is_next_fill.ensures P es h.rows).0 c.if-not-is_next_fill.false in
    let (k, at) = key_in es c.args.key n.known in
    let b = (c.begins_right.ensures P es k h.rows at).0 c.if-not-begins_right.false in
    fill_no_choice P all es c.args.key c.args.site c.args.first k at n b (not_yes c.in_ok-chooses_right.field-0 (c.in_ok-chooses_right.ensures es k h.rows at b) c.if-not-branch.true)

pub returns : goal.returns
returns c = λ all es h.
    let P = c.args.ready.now in
    let n = (c.is_next_fill.ensures P es h.rows).0 c.if-not-is_next_fill.false in
    let (k, at) = key_in es c.args.key n.known in
    let b = (c.begins_right.ensures P es k h.rows at).0 c.if-not-begins_right.false in
    fill_clean P all es c.args.key c.args.site c.args.first k at n b ((c.in_ok-chooses_right.ensures es k h.rows at b).0 c.if-not-branch.false)
