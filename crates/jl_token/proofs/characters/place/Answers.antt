use Rattle.std.proofs.Common.{◌-◌, sym, ap}
use Rattle.jl_token.proofs.Texts.{width-chars}
use Rattle.jl_token.proofs.characters.place.Goals as goal

pub returns : goal.returns
returns c = ap (λ n. c.args.bytes - n) (sym (width-chars c.args.rest.now c.utf8.rest))
