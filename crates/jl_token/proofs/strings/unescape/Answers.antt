use Rattle.std.proofs.Common.{◌∙◌, arith, rules}
use Rattle.std.specs.Str.{chars}
use Rattle.jl_token.proofs.StringText.{escape-takes, escape-ends}
use Rattle.jl_token.proofs.strings.unescape.Goals as goal

pub loop-first-preserved : goal.loop-first-preserved
loop-first-preserved c =
    let first = c.in-Some.first in
    let byte = c.in-Some-read_escape.byte in
    let rest = chars c.loop-first.rest.now in
    let after = chars c.in-Some.after.now in
    let behind = chars c.in-Some-read_escape.behind.now in
    let taken = escape-takes c.loop-first.meant.items c.push.new.self.items first byte rest after behind c.in-Some.ensures.split c.if-first-ne92.false c.in-Some-read_escape.ensures.found c.in_ok-push.ensures.items in
    let ended = escape-ends first byte rest after behind c.in-Some.ensures.split c.if-first-ne92.false c.in-Some-read_escape.ensures.found in (
      search rules,
      c.in_ok-rest-2.ensures.bytes ∙ taken ∙ c.loop-first.invariant.1,
      c.in_ok-rest-2.ensures.end ∙ ended ∙ c.loop-first.invariant.2,
      c.in_ok-rest-2.ensures.stops,
      omega (arith, c.in-Some.ensures.shorter, c.in-Some-read_escape.ensures.shorter, c.in_ok-rest-2.ensures.shorter),
    )
