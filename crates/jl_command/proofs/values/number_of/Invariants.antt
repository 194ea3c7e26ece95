use Rattle.std.proofs.Common.{◌≡◌, ◌<◌, true, drop}
use Rattle.std.specs.List.{list_all}
use Rattle.jl_command.specs.Rule.{is_digit, digits_from}
use Rattle.jl_command.proofs.Digits.{limit}
use Rattle.jl_command.proofs.values.number_of.Given as goal

abbrev pub invariant-loop-digit : goal.invariant-loop-digit
invariant-loop-digit l = record {
  small : l.number < limit l.digit-index;
  rest : digits_from l.number (drop l.digit-index l.digits) ≡ digits_from 0 (drop 0 l.digits);
  digits : list_all is_digit (drop l.digit-index l.digits) ≡ true;
}
