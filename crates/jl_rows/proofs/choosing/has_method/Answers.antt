use Rattle.std.proofs.Common.{sym, subst, arith}
use Rattle.std.specs.List.Sorted.{IsStrictlyIncreasing}
use Rattle.jl_calculus.specs.Definitions.{worlds, HasSite}
use Rattle.jl_calculus.specs.World.{changes}
use Rattle.jl_methods.proofs.ChangeLemmas.{defs_rise}
use Rattle.jl_methods.proofs.FunctionLemmas.{get_there}
use Rattle.jl_methods.proofs.TouchLemmas.{increases}
use Rattle.jl_methods.specs.Filters.{defs_of}
use Rattle.jl_subsig.specs.Side.{Every}
use Rattle.jl_subsig.specs.Standing.{HasLeftAt}
use Rattle.jl_rows.proofs.NewestLemmas.{defs_sites, gone_places, finds_from, finds_to}
use Rattle.jl_rows.proofs.choosing.has_method.Goals as goal

pub has_standing-requires-clause-sites : goal.has_standing-requires-clause-sites
has_standing-requires-clause-sites c =
    let P = c.args.ready.now in
    let (es, h) = c.requires.index in
    subst (Every (HasSite P)) (sym (c.defs_of-defs.ensures P es h)) (defs_sites P c.function_at-function.result (changes es))

pub has_standing-requires-clause-places : goal.has_standing-requires-clause-places
has_standing-requires-clause-places c =
    let P = c.args.ready.now in
    let (es, h) = c.requires.index in
    gone_places P es c.function_at-function.result c.latest_dels_of-dels.result.now (c.latest_dels_of-dels.ensures P es h)

pub has_standing-requires-clause-ordered : goal.has_standing-requires-clause-ordered
has_standing-requires-clause-ordered c =
    let P = c.args.ready.now in
    let (es, h) = c.requires.index in
    let f = c.function_at-function.result in
    subst (λ ds. IsStrictlyIncreasing (worlds ds)) (sym (c.defs_of-defs.ensures P es h)) (increases (worlds (defs_of P es f)) (defs_rise P f 0 1 (changes es) (omega arith)))

pub returns : goal.returns
returns c =
    let P = c.args.ready.now in
    let f = c.function_at-function.result in
    let place = c.args.place in
    let gone = c.latest_dels_of-dels.result.now in
    λ es h.
    let (p, at) = get_there P.deletes place c.requires.place in
    let function = c.function_at-function.ensures p at in
    let are = c.latest_dels_of-dels.ensures P es h in
    let same = c.defs_of-defs.ensures P es h in (
      λ yes. finds_from P es f gone are place p at (subst (λ ds. HasLeftAt P gone ds place) same (c.in_ok-is_standing.ensures.0 yes)) (sym function),
      λ found. c.in_ok-is_standing.ensures.1 (subst (λ ds. HasLeftAt P gone ds place) (sym same) (finds_to P es f gone are place p at (sym function) found)),
    )
