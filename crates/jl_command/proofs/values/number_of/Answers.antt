use Rattle.std.proofs.Common.{arith}
use Rattle.jl_command.proofs.Digits.{few, room}
use Rattle.jl_command.proofs.values.number_of.Goals as goal

pub overflow_mul-number : goal.overflow_mul-number
overflow_mul-number c =
    let h = few c.args.digits.now c.requires in
    let r = room c.loop-digit.digit-index c.loop-digit.number (omega (arith, h)) c.loop-digit.invariant.small in
    omega (arith, r)

pub overflow_add-number : goal.overflow_add-number
overflow_add-number c =
    let h = few c.args.digits.now c.requires in
    let r = room c.loop-digit.digit-index c.loop-digit.number (omega (arith, h)) c.loop-digit.invariant.small in
    omega (arith, r, c.digit_value.ensures.small)
