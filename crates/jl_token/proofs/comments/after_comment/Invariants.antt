use Rattle.std.proofs.Common.{◌≡◌, ◌≤◌, ◌+◌, length}
use denote.Text.{Utf8}
use denote.Shadow.{shadow}
use Rattle.std.specs.Str.{chars}
use Rattle.jl_token.specs.Reading.{after_comment}
use Rattle.jl_token.proofs.comments.after_comment.Given as goal

-- the text that is left ends the comments that are open where the whole text ends its own
abbrev pub invariant-loop-first : goal.invariant-loop-first
invariant-loop-first l = shadow (Utf8 l.rest) × (after_comment l.around (chars l.rest) ≡ after_comment 0 (chars l.text)) × (l.around + length l.rest ≤ length l.text)

abbrev pub decreases-loop-first : goal.decreases-loop-first
decreases-loop-first l = length l.rest
