use Rattle.std.proofs.Common.{◌∙◌, sym, subst, arith}
use Rattle.jl_causes.specs.Judged.{IsReadAs}
use Rattle.jl_causes.proofs.JudgeLemmas.{not_so, key_out_of_order, key_unknown, key_stood, key_clean}
use Rattle.jl_causes.proofs.judge.Judge.judge_key.Goals as goal

pub returns-then-number-keys : goal.returns-then-number-keys
returns-then-number-keys c = λ P all es function tuple h read.
    key_out_of_order P all es c.args.number function tuple (λ next. c.if-number-keys.true (next.counted ∙ sym (c.keys-keys.ensures P es h.rows)))

pub returns-then-keys-ge-MOST_CACHE_KEYS : goal.returns-then-keys-ge-MOST_CACHE_KEYS
returns-then-keys-ge-MOST_CACHE_KEYS c = λ P all es function tuple h read.
    key_out_of_order P all es c.args.number function tuple (λ next. omega (arith, next.room, c.keys-keys.ensures P es h.rows, c.if-keys-ge-MOST_CACHE_KEYS.true))

pub returns-in-None : goal.returns-in-None
returns-in-None c = λ P all es function tuple h read.
    key_unknown P all es c.args.number function tuple (c.if-number-keys.false ∙ c.keys-keys.ensures P es h.rows) (omega (arith, c.keys-keys.ensures P es h.rows, c.if-keys-ge-MOST_CACHE_KEYS.false)) (subst (IsReadAs P function tuple) c.in-None.is read)

pub has_key-requires : goal.has_key-requires
has_key-requires c = let (P, all, es, h) = c.requires in (P, es, h.rows)

pub returns-then-has_key : goal.returns-then-has_key
returns-then-has_key c = λ P all es function tuple h read.
    key_stood P all es c.args.number function tuple c.in-Some.key (subst (IsReadAs P function tuple) c.in-Some.is read) ((c.has_key.ensures P es h.rows).0 c.if-has_key.true)

pub returns-else-has_key : goal.returns-else-has_key
returns-else-has_key c = λ P all es function tuple h read.
    key_clean P all es c.args.number function tuple c.in-Some.key (c.if-number-keys.false ∙ c.keys-keys.ensures P es h.rows) (omega (arith, c.keys-keys.ensures P es h.rows, c.if-keys-ge-MOST_CACHE_KEYS.false)) (subst (IsReadAs P function tuple) c.in-Some.is read)
    (not_so c.has_key.result (c.has_key.ensures P es h.rows) c.if-has_key.false)
