use Rattle.std.proofs.Common.{◌≡◌, ◌≤◌, length}
use denote.Text.{Utf8}
use denote.Shadow.{shadow}
use Rattle.std.specs.Str.{chars}
use Rattle.jl_token.specs.Reading.{after_plain}
use Rattle.jl_token.proofs.strings.after_plain.Given as goal

abbrev pub invariant-loop-first : goal.invariant-loop-first
invariant-loop-first l = shadow (Utf8 l.rest) × (after_plain (chars l.rest) ≡ after_plain (chars l.text)) × (length l.rest ≤ length l.text)

abbrev pub decreases-loop-first : goal.decreases-loop-first
decreases-loop-first l = length l.rest
