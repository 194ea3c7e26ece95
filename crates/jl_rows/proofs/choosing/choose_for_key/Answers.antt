use Rattle.std.proofs.Common.{ap, arith, length}
use Rattle.jl_calculus.specs.Legal.{IsKeyOf}
use Rattle.jl_calculus.specs.Ranges.{keys_of}
use Rattle.jl_methods.proofs.FunctionLemmas.{get_there, all_get}
use Rattle.jl_rows.proofs.choosing.choose_for_key.Goals as goal

pub choose_among-requires-clause-applying : goal.choose_among-requires-clause-applying
choose_among-requires-clause-applying c =
    let P = c.args.ready.now in
    let (es, h) = c.requires.index in
    let (k, at) = get_there (keys_of es) c.args.key (omega (arith, c.requires.key, ap length h.known_keys)) in
    (k, all_get (IsKeyOf P) (keys_of es) c.args.key k h.proper_keys at, c.sites_of-sites.ensures P es k h at, c.places_of-places.ensures P es k h at)

pub returns : goal.returns
returns c =
    let P = c.args.ready.now in
    λ es k h at.
    c.in_ok-choice.ensures es k h (all_get (IsKeyOf P) (keys_of es) c.args.key k h.proper_keys at) (c.sites_of-sites.ensures P es k h at) (c.places_of-places.ensures P es k h at)
