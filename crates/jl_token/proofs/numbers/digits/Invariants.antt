use Rattle.std.proofs.Common.{◌≡◌, ◌≤◌, ◌<◌, ◌^◌, length}
use denote.Text.{Utf8}
use denote.Shadow.{shadow}
use Rattle.std.specs.Str.{chars}
use Rattle.jl_token.specs.Reading.{digits}
use Rattle.jl_token.proofs.Capped.{capped}
use Rattle.jl_token.proofs.numbers.digits.Given as goal

-- the digits that are left, behind the value so far, have the value of all
abbrev pub invariant-loop-first : goal.invariant-loop-first
invariant-loop-first l = shadow (Utf8 l.rest) × (capped (digits l.value (chars l.rest)) ≡ capped (digits 0 (chars l.text))) × (length l.rest ≤ length l.text) × (l.value < 2 ^ 64)

abbrev pub decreases-loop-first : goal.decreases-loop-first
decreases-loop-first l = length l.rest
