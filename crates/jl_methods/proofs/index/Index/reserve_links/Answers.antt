use Rattle.std.proofs.Common.{◌<◌, sym, subst, length}
use Rattle.std.specs.List.{All}
use Rattle.jl_calculus.specs.declared.history.Change.TheVariants as Ch
use Rattle.jl_methods.specs.Indexed.{noted_in}
use Rattle.jl_methods.proofs.LinkLemmas.{site_bound, place_bound, applying_below}
use Rattle.jl_methods.proofs.index.Index.reserve_links.Goals as goal

pub reserve_key-requires-clause-known : goal.reserve_key-requires-clause-known
reserve_key-requires-clause-known c =
    let P = c.args.ready.now in
    let ls = (noted_in c.args.self.now).sites.touched in
    subst (All (λ n. n < length ls)) (sym c.as_slice.ensures.value) (applying_below P Ch.Def (length P.sites) (site_bound P) c.args.key.now c.in_ok-sites.sites.items c.in_ok-sites.ensures ls c.requires.sites)

pub reserve_key-requires-2-clause-known : goal.reserve_key-requires-2-clause-known
reserve_key-requires-2-clause-known c =
    let P = c.args.ready.now in
    let ls = (noted_in c.args.self.now).places.touched in
    subst (All (λ n. n < length ls)) (sym c.as_slice-2.ensures.value) (applying_below P Ch.Del (length P.deletes) (place_bound P) c.args.key.now c.in_ok-places.places.items c.in_ok-places.ensures ls c.requires.places)
