use Rattle.std.proofs.Common.{refl, arith}
use Rattle.jl_causes.proofs.JudgeLemmas.{not_so}
use Rattle.jl_causes.proofs.RowLemmas.{next_fill, fill_known, has_no_row, no_next_fill}
use Rattle.jl_causes.proofs.rows.Rows.is_next_fill.Goals as goal

pub returns-then-key-self : goal.returns-then-key-self
returns-then-key-self c = λ P es h. no_next_fill es c.args.key c.args.first (λ n. (let k = fill_known P es c.args.self.now c.args.key c.args.first h n in omega (arith, k.0, c.if-key-self.true)))

pub returns-then-count-ge-MOST_CACHE_ROWS : goal.returns-then-count-ge-MOST_CACHE_ROWS
returns-then-count-ge-MOST_CACHE_ROWS c = λ P es h.
    no_next_fill es c.args.key c.args.first (λ n. (let k = fill_known P es c.args.self.now c.args.key c.args.first h n in omega (arith, k.1, c.len-count.ensures, c.args.self.now.firsts.ok.0, c.if-count-ge-MOST_CACHE_ROWS.true)))

pub has_row-requires : goal.has_row-requires
has_row-requires c = c.requires

pub returns-then-has_row : goal.returns-then-has_row
returns-then-has_row c = λ P es h. no_next_fill es c.args.key c.args.first (λ n. has_no_row es c.args.key c.args.first n ((c.has_row.ensures P es h).0 c.if-has_row.true))

pub returns : goal.returns
returns c = λ P es h. (
  (λ yes. next_fill P es c.args.self.now c.args.key c.args.first h (omega (arith, c.if-key-self.false)) (omega (arith, c.len-count.ensures, c.args.self.now.firsts.ok.0, c.if-count-ge-MOST_CACHE_ROWS.false)) (not_so c.has_row.result (c.has_row.ensures P es h) c.if-has_row.false)),
  (λ n. refl),
)
