use Rattle.std.proofs.Common.{sym, arith}
use Rattle.jl_history.proofs.NumberLemmas.{number_found, number_large}
use Rattle.jl_history.proofs.fields.number.Goals as goal

pub returns-then-number-most : goal.returns-then-number-most
returns-then-number-most c = sym (number_found c.args.most c.in_ok-number.number c.args.text.now c.if-number-most.true (omega (arith, c.ranges.most.fits)) c.in_ok-number.ensures.1)

pub returns-else-number-most : goal.returns-else-number-most
returns-else-number-most c = sym (number_large c.args.most c.in_ok-number.number c.args.text.now c.if-number-most.false c.in_ok-number.ensures.0 c.in_ok-number.ensures.1)
