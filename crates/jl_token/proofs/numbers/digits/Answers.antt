use Rattle.std.proofs.Common.{◌≡◌, arith, rules, sym}
use Rattle.std.specs.Str.{chars}
use Rattle.jl_token.specs.Reading.{digits}
use Rattle.jl_token.proofs.Capped.{capped-digit, capped-ends, capped-rest, digits-stop, digits-end}
use Rattle.jl_token.proofs.DigitText.{digits-progress}
use Rattle.jl_token.proofs.numbers.digits.Goals as goal
use Rattle.jl_token.proofs.numbers.digits.Goals.{in-Some+else-is_ascii_digit+then-not-is_separator, in_default}

pub loop-first-preserved-then-is_ascii_digit : goal.loop-first-preserved-then-is_ascii_digit
loop-first-preserved-then-is_ascii_digit c = (
  search rules,
  capped-digit c.loop-first.value c.saturating_add-value.result c.in-Some.first _ _ _ c.in-Some.ensures.split (sym c.if-is_ascii_digit.ensures.value) (search rules) c.loop-first.invariant.1,
  omega (arith, c.in-Some.ensures.shorter),
  omega arith,
)

pub returns-clause-value : goal.returns-clause-value
returns-clause-value c =
    let value = c.loop-first.value in
    let rest = chars c.loop-first.rest.now in
    let whole = digits 0 (chars c.args.text.now) in
    elim c.match-split_first.branch [
      | in-Some+else-is_ascii_digit+then-not-is_separator w ↦
          capped-ends value rest whole c.loop-first.invariant.3 (digits-stop value w.in-Some.first rest (chars w.in-Some.after.now) w.in-Some.ensures.split (sym w.if-is_ascii_digit.ensures.value) (sym w.if-not-is_separator.ensures)) c.loop-first.invariant.1
      | in_default w ↦ capped-ends value rest whole c.loop-first.invariant.3 (digits-end value rest w.in_default.ensures.split) c.loop-first.invariant.1
    ]

pub returns-clause-progress : goal.returns-clause-progress
returns-clause-progress c = λ digit.
    let value = c.loop-first.value in
    let rest = chars c.loop-first.rest.now in
    let whole = digits 0 (chars c.args.text.now) in
    let is : rest ≡ whole.1 =
    elim c.match-split_first.branch [
      | in-Some+else-is_ascii_digit+then-not-is_separator w ↦
          capped-rest value rest whole (digits-stop value w.in-Some.first rest (chars w.in-Some.after.now) w.in-Some.ensures.split (sym w.if-is_ascii_digit.ensures.value) (sym w.if-not-is_separator.ensures)) c.loop-first.invariant.1
      | in_default w ↦ capped-rest value rest whole (digits-end value rest w.in_default.ensures.split) c.loop-first.invariant.1
    ] in
    digits-progress c.args.text.now c.loop-first.rest.now c.utf8.text c.loop-first.invariant.0 is digit
