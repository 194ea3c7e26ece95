use Rattle.std.proofs.Common.{ap, arith, length}
use Rattle.jl_causes.proofs.JudgeLemmas.{not_so}
use Rattle.jl_causes.proofs.RowLemmas.{key_found, key_missing, key_next}
use Rattle.jl_causes.proofs.rows.Rows.has_key.Goals as goal

pub key-requires : goal.key-requires
key-requires c =
    let (P, es, h) = c.requires in
    omega (arith, c.loop-number-test.true, h.counted, ap length h.indexed.known_keys)

pub returns-then-is_same_key : goal.returns-then-is_same_key
returns-then-is_same_key c = λ P es h. key_found es c.loop-number.number c.key.result.now c.args.key.now (c.key.ensures P es h.indexed) (c.is_same_key.ensures.0 c.if-is_same_key.true)

pub loop-number-preserved : goal.loop-number-preserved
loop-number-preserved c = λ P es h.
    key_next es c.loop-number.number c.key.result.now c.args.key.now (c.key.ensures P es h.indexed) (λ e. not_so c.is_same_key.result c.is_same_key.ensures c.if-is_same_key.false e) (c.loop-number.invariant P es h)

pub returns : goal.returns
returns c = λ P es h. key_missing es c.loop-number.number c.args.key.now (omega (arith, c.loop-number-test.false, h.counted)) (c.loop-number.invariant P es h)
