use Rattle.std.proofs.Common.{◌≡◌, ◌≤◌, length, false}
use denote.Text.{Utf8}
use denote.Shadow.{shadow}
use Rattle.std.specs.Str.{chars}
use Rattle.jl_token.specs.Characters.{has_first}
use Rattle.jl_token.specs.Grammar.{is_plain}
use Rattle.jl_token.specs.Reading.{after_string, unescape, with_front}
use Rattle.jl_token.proofs.strings.unescape.Given as goal

-- the bytes so far and those of the rest are those of the whole text, whose end is that of the rest
abbrev pub invariant-loop-first : goal.invariant-loop-first
invariant-loop-first l =
    shadow (Utf8 l.rest)
    × (with_front l.meant.items (unescape (chars l.rest)) ≡ unescape (chars l.text))
    × (after_string false (chars l.rest) ≡ after_string false (chars l.text))
    × (has_first is_plain (chars l.rest) ≡ false)
    × (length l.rest ≤ length l.text)

abbrev pub decreases-loop-first : goal.decreases-loop-first
decreases-loop-first l = length l.rest
