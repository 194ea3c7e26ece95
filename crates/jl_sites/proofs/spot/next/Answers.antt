use Rattle.std.proofs.Common.{◌∙◌, ap, sym, arith, get_or}
use Rattle.jl_sites.specs.declared.spot.Spot.{Spot}
use Rattle.jl_sites.specs.Spots.{one_more}
use Rattle.jl_sites.proofs.SpotLemmas.{spot_more}
use Rattle.jl_sites.proofs.spot.next.Goals as goal

pub returns-clause-reached : goal.returns-clause-reached
returns-clause-reached c = record {
  within = omega (c.requires.more, arith);
  there = c.one_more.ensures.spot ∙ ap (λ (s : Spot). one_more s (get_or c.args.bytes.now c.args.cursor.at 0)) c.requires.reached.there ∙ sym (spot_more c.args.bytes.now c.args.cursor.at 0 c.requires.more);
  line = omega (c.requires.reached.line, c.one_more.ensures.line, arith);
  column = omega (c.requires.reached.column, c.one_more.ensures.column, arith);
}
